-- The search in the order of a text finds a name exactly where the tree has one that stops it.
-- Assumes nothing.
use Prim.Native.Nat.{ℕ, ◌+◌}
use mathlib.Core.Path.{◌≡◌, refl, sym}
use mathlib.Core.Bool.{true, true≢false}
use mathlib.Core.List.{List, [], ◌∷◌}
use mathlib.Core.Logic.{◌⊎◌, inl, inr, ⊎_elim}
use Rattle.laws.proofs.Tests.{by_test}
use Rattle.json_text.specs.Tree.{Json, Values, Fields}
use Rattle.json_text.specs.Grammar.{Scalar, Value, Elements, Member, Members, Text}
use Rattle.json_text.specs.Grammar.Scalar.{sc_null, sc_true, sc_false, sc_number, sc_string}
use Rattle.json_text.specs.Grammar.Value.{val_scalar, val_array0, val_array, val_object0, val_object}
use Rattle.json_text.specs.Grammar.Elements.{elem_last, elem_more}
use Rattle.json_text.specs.Grammar.Member.{member}
use Rattle.json_text.specs.Grammar.Members.{mem_last, mem_more}
use Rattle.json_text.specs.Grammar.Text.{text}
use Rattle.names.specs.Rules.{Anywhere, InElement, InMember}
use Rattle.names.specs.Rules.Anywhere.{at_object, in_object, in_array}
use Rattle.names.specs.Rules.InElement.{element_first, element_later}
use Rattle.names.specs.Rules.InMember.{member_first, member_later}
use Rattle.names.specs.Order.{Names, Stop, pairs, Out, then_out, named}
use Rattle.names.specs.Order.{seek_value, seek_elements, seek_member, seek_members, seek_text}
use Rattle.names.specs.Order.Out.{on, found}

-- an answer says whether P holds
pub data Means (P : Type 0) : Out → Type 0 where
  means_on : {q : ℕ} → (P → ⊥) → Means P (on q)
  means_found : {v : List ℕ} {q : ℕ} → P → Means P (found v q)

pub means_as : {P Q : Type 0} {u : Out} → (P → Q) → (Q → P) → Means P u → Means Q u
means_as f g (means_on x) = means_on (λ q. x (g q))
means_as f g (means_found x) = means_found (f x)

means_then : {P Q R : Type 0} {u : Out} (f : ℕ → Out) → (P → R) → (Q → R) → (R → P ⊎ Q) → Means P u
    → ((q : ℕ) → Means Q (f q)) → Means R (then_out u f)
means_then f a b c (means_on {q = q} x) g = means_as b (λ r. ⊎_elim (λ p. absurd (x p)) (λ k. k) (c r)) (g q)
means_then f a b c (means_found x) g = means_found (a x)

means_named : {P : Type 0} (stop : Stop) (w k : List ℕ) (c : Names) (p : ℕ) (f : ℕ → Out)
    → ((q : ℕ) → Means P (f q)) → Means ((stop k c ≡ true) ⊎ P) (named stop w k c p f)
means_named stop w k c p f g =
    by_test (stop k c)
    (λ e. rw e (means_found (inl refl)))
    (λ e. rw e (means_as (λ x. inr x) (λ z. ⊎_elim (λ m. absurd (true≢false (sym m))) (λ x. x) z) (g (p + pairs k c))))

-- a name of the members stops the search, the names c standing before them
pub data Stops (stop : Stop) : Names → Fields → Type 0 where
  stops_here : {c : Names} {k : List ℕ} {j : Json} {ms : Fields} → stop k c ≡ true
      → Stops stop c (Fields.field_then k j ms)
  stops_later : {c : Names} {k : List ℕ} {j : Json} {ms : Fields} → Stops stop (k ∷ c) ms
      → Stops stop c (Fields.field_then k j ms)

module _ (stop : Stop) where
  -- a name anywhere in the tree stops the search
  abbrev pub Met : Json → Type 0
  Met j = Anywhere (Stops stop []) j

  abbrev MetIn : Values → Type 0
  MetIn js = InElement (Stops stop []) js

  -- a name of the members, or one in their values
  abbrev MetOf : Names → Fields → Type 0
  MetOf c ms = Stops stop c ms ⊎ InMember (Stops stop []) ms

  -- the first member's name, or one in its value
  abbrev First : List ℕ → Names → Json → Type 0
  First k c j = (stop k c ≡ true) ⊎ Met j

  first_in : {k : List ℕ} {c : Names} {j : Json} {ms : Fields} → First k c j → MetOf c (Fields.field_then k j ms)
  first_in (inl e) = inl (stops_here e)
  first_in (inr x) = inr (member_first x)

  later_in : {k : List ℕ} {c : Names} {j : Json} {ms : Fields} → MetOf (k ∷ c) ms → MetOf c (Fields.field_then k j ms)
  later_in (inl x) = inl (stops_later x)
  later_in (inr x) = inr (member_later x)

  parts_of : {k : List ℕ} {c : Names} {j : Json} {ms : Fields} → MetOf c (Fields.field_then k j ms)
      → First k c j ⊎ MetOf (k ∷ c) ms
  parts_of (inl (stops_here e)) = inl (inl e)
  parts_of (inl (stops_later x)) = inr (inl x)
  parts_of (inr (member_first x)) = inl (inr x)
  parts_of (inr (member_later x)) = inr (inr x)

  no_members : (c : Names) → MetOf c Fields.fields_end → ⊥
  no_members c (inl x) = none x where
    none : Stops stop c Fields.fields_end → ⊥
    none = elim [ ]
  no_members c (inr x) = none x where
    none : InMember (Stops stop []) Fields.fields_end → ⊥
    none = elim [ ]

  last_of : {k : List ℕ} {c : Names} {j : Json} → MetOf c (Fields.field_then k j Fields.fields_end) → First k c j
  last_of {k = k} {c = c} x = ⊎_elim (λ y. y) (λ y. absurd (no_members (k ∷ c) y)) (parts_of x)

  object_of_lem : {ms : Fields} → MetOf [] ms → Met (Json.object ms)
  object_of_lem (inl x) = at_object x
  object_of_lem (inr x) = in_object x

  object_from : {ms : Fields} → Met (Json.object ms) → MetOf [] ms
  object_from (at_object x) = inl x
  object_from (in_object x) = inr x

  array_from : {js : Values} → Met (Json.array js) → MetIn js
  array_from (in_array x) = x

  no_elements : MetIn Values.values_end → ⊥
  no_elements = elim [ ]

  either_of : {j : Json} {js : Values} → MetIn (Values.value_then j js) → Met j ⊎ MetIn js
  either_of (element_first x) = inl x
  either_of (element_later x) = inr x

  one_of : {j : Json} → MetIn (Values.value_then j Values.values_end) → Met j
  one_of x = ⊎_elim (λ y. y) (λ y. absurd (no_elements y)) (either_of x)

  scalar_none : {w r : List ℕ} {j : Json} → Scalar w j r → Met j → ⊥
  scalar_none (sc_null h) = elim [ ]
  scalar_none (sc_true h) = elim [ ]
  scalar_none (sc_false h) = elim [ ]
  scalar_none (sc_number h) = elim [ ]
  scalar_none (sc_string h) = elim [ ]

  mutual
    unfolding seek_value seek_elements seek_member seek_members

    value_means : {w r : List ℕ} {j : Json} (d : Value w j r) (p : ℕ) → Means (Met j) (seek_value stop d p)
    value_means (val_scalar h) p = means_on (scalar_none h)
    value_means (val_array0 a) p = means_on (λ x. no_elements (array_from x))
    value_means (val_array a h) p = means_as in_array array_from (elements_means h p)
    value_means (val_object0 a) p = means_on (λ x. no_members [] (object_from x))
    value_means (val_object a h) p = means_as object_of_lem object_from (members_means h [] p)

    elements_means : {w r : List ℕ} {js : Values} (d : Elements w js r) (p : ℕ) → Means (MetIn js) (seek_elements stop d p)
    elements_means (elem_last v a) p = means_as element_first one_of (value_means v p)
    elements_means (elem_more v a b h) p =
        means_then (λ q. seek_elements stop h q) element_first element_later either_of (value_means v p)
        (λ q. elements_means h q)

    member_means : {w k r : List ℕ} {j : Json} (d : Member w k j r) (p : ℕ) → Means (Met j) (seek_member stop d p)
    member_means (member n v) p = value_means v p

    members_means : {w r : List ℕ} {ms : Fields} (d : Members w ms r) (c : Names) (p : ℕ)
        → Means (MetOf c ms) (seek_members stop d c p)
    members_means (mem_last {w = w} {k = k} m a) c p =
        means_as first_in last_of (means_named stop w k c p (λ q. seek_member stop m q) (λ q. member_means m q))
    members_means (mem_more {w = w} {k = k} m a b h) c p =
        means_then (λ q. seek_members stop h (k ∷ c) q) first_in later_in parts_of
        (means_named stop w k c p (λ q. seek_member stop m q) (λ q. member_means m q))
        (λ q. members_means h (k ∷ c) q)

  -- the whole text
  pub text_means : {s : List ℕ} {j : Json} (d : Text s j) → Means (Met j) (seek_text stop d)
  unfolding seek_text
  text_means (text a v b) = value_means v 0

-- what members are, an object anywhere may be
module _ {P Q : Fields → Type 0} (f : (ms : Fields) → P ms → Q ms) where
  mutual
    pub anywhere_as : {j : Json} → Anywhere P j → Anywhere Q j
    anywhere_as (at_object {ms = ms} x) = at_object (f ms x)
    anywhere_as (in_object x) = in_object (member_as x)
    anywhere_as (in_array x) = in_array (element_as x)

    element_as : {js : Values} → InElement P js → InElement Q js
    element_as (element_first x) = element_first (anywhere_as x)
    element_as (element_later x) = element_later (element_as x)

    member_as : {ms : Fields} → InMember P ms → InMember Q ms
    member_as (member_first x) = member_first (anywhere_as x)
    member_as (member_later x) = member_later (member_as x)
