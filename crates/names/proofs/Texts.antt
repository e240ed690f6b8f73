-- The search over the bytes of a text is the search in its order, where there is room.
-- Assumes nothing.
use Prim.Native.Nat.{ℕ, suc, ◌+◌, ◌-◌, ◌*◌, ◌≤◌}
use native.Mathlib.Omega.{arith}
use mathlib.Core.Path.{◌≡◌, refl, ◌∙◌}
use mathlib.Core.Bool.{false}
use mathlib.Core.List.{List, [], ◌∷◌}
use lib.ListN.{length}
use Rattle.json_text.specs.Tree.{Json, Values, Fields, depth, depths, depths_of}
use Rattle.json_text.specs.Lengths.{ws_shorter, chars_shorter, value_shorter}
use Rattle.json_text.specs.Grammar.{Name, Value, Elements, Member, Members, Text}
use Rattle.json_text.specs.Grammar.Name.{name}
use Rattle.json_text.specs.Grammar.Value.{val_scalar, val_array0, val_array, val_object0, val_object}
use Rattle.json_text.specs.Grammar.Elements.{elem_last, elem_more}
use Rattle.json_text.specs.Grammar.Member.{member}
use Rattle.json_text.specs.Grammar.Members.{mem_last, mem_more}
use Rattle.json_text.specs.Grammar.Text.{text}
use Rattle.names.specs.declared.Search.TheVariants.{Full}
use Rattle.names.specs.Order.{Names, pairs, Out, named, place}
use Rattle.names.specs.Order.{seek_value, seek_elements, seek_member, seek_members, seek_text}
use Rattle.names.specs.Names.{Plan, room, run, searched}
use Rattle.names.proofs.Along.{Held, ◌then◌, quiet, ws_along}
use Rattle.names.proofs.Goes.{moved, Goes, before, goes_end, goes_then}
use Rattle.names.proofs.Goes.{scalar_goes, named_goes, open_goes, shut_array, shut_object}
use Rattle.names.proofs.Goes.Goes.{goes_on, goes_found, goes_full}

-- a name is at least three bytes with its colon, ..
name_least : {w k r : List ℕ} → Name w k r → length r + 3 ≤ length w
name_least (name h a b) = omega (arith, chars_shorter h, ws_shorter a, ws_shorter b)

-- .. a member four
member_least : {w k r : List ℕ} {j : Json} → Member w k j r → length r + 4 ≤ length w
member_least (member n v) = omega (arith, name_least n, value_shorter v)

-- one name more is one entry more
room_more : (k : List ℕ) (c : Names) (o : List Names) → room (k ∷ c) o ≡ suc (room c o)
room_more k c [] = refl
room_more k c (x ∷ o) = omega arith

-- With n levels left, an open level takes at most 6 of `most`: its bracket 4 and its last name 2.
-- A member that is past takes no more than its five bytes.
mutual
  unfolding seek_value seek_elements seek_member seek_members depth

  value_goes : (most : ℕ) {w r : List ℕ} {j : Json} (x : Held) (n : ℕ) (d : Value w j r) → depth j ≤ n
      → 5 * room x.c x.o + length w + 6 * n ≤ most
      → Goes most x w r x.c x.o (seek_value x.plan.stop d x.p)
  value_goes most x n (val_scalar h) e b = scalar_goes x h
  value_goes most x n (val_array0 {r = r} a) e b =
      open_goes x 0x5b (omega arith) refl refl
      (goes_on x.l x.n ((ws_along a).same ∙ shut_array x x.l x.n x.p [] x.c x.o r))
  value_goes most x n (val_array a h) e b =
      open_goes x 0x5b (omega arith) refl refl
      (before x.l x.n x.p [] (x.c ∷ x.o) (ws_along a).same
      (elements_goes most x (n - 1) x.l x.n x.p [] x.c x.o h (omega arith) (omega (arith, ws_shorter a))))
  value_goes most x n (val_object0 {r = r} a) e b =
      open_goes x 0x7b (omega arith) refl refl
      (goes_on x.l x.n ((ws_along a).same ∙ shut_object x x.l x.n x.p [] x.c x.o r))
  value_goes most x n (val_object a h) e b =
      open_goes x 0x7b (omega arith) refl refl
      (before x.l x.n x.p [] (x.c ∷ x.o) (ws_along a).same
      (members_goes most x (n - 1) x.l x.n x.p [] x.c x.o h (omega arith) (omega (arith, ws_shorter a))))

  elements_goes : (most : ℕ) {w r : List ℕ} {js : Values} (x : Held) (z : ℕ) (l n : List ℕ) (p : ℕ) (d c : Names)
      (o : List Names) (h : Elements w js r) → depths js ≤ z → 5 * room d (c ∷ o) + length w + 6 * z ≤ most
      → Goes most (moved x l n p d (c ∷ o)) w r c o (seek_elements x.plan.stop h p)
  elements_goes most x z l n p d c o (elem_last {r = r} v a) e b =
      goes_end (value_goes most (moved x l n p d (c ∷ o)) z v (omega arith) b)
      (λ l n q. (ws_along a).same ∙ shut_array x l n q d c o r)
  elements_goes most x z l n p d c o (elem_more v a b h) e m =
      goes_then (λ q. seek_elements x.plan.stop h q)
      (goes_end (value_goes most (moved x l n p d (c ∷ o)) z v (omega arith) m)
      (λ l n q. (ws_along a then quiet (refl, refl) then ws_along b).same))
      (λ l n q. elements_goes most x z l n q d c o h (omega arith)
      (omega (arith, value_shorter v, ws_shorter a, ws_shorter b)))

  member_goes : (most : ℕ) {w k r : List ℕ} {j : Json} (x : Held) (z : ℕ) (m : Member w k j r) → depth j ≤ z
      → 5 * room x.c x.o + length w + 6 * z + 2 ≤ most
      → Goes most x w r (k ∷ x.c) x.o (named x.plan.stop w k x.c x.p (λ q. seek_member x.plan.stop m q))
  member_goes most x z (member {w = w} {k = k} e v) y b =
      named_goes x (λ q. seek_value x.plan.stop v q) (omega arith) e
      (value_goes most (moved x w k (x.p + pairs k x.c) (k ∷ x.c) x.o) z v y
      (omega (arith, name_least e, room_more k x.c x.o)))

  members_goes : (most : ℕ) {w r : List ℕ} {ms : Fields} (x : Held) (z : ℕ) (l n : List ℕ) (p : ℕ) (d c : Names)
      (o : List Names) (h : Members w ms r) → depths_of ms ≤ z → 5 * room d (c ∷ o) + length w + 6 * z + 2 ≤ most
      → Goes most (moved x l n p d (c ∷ o)) w r c o (seek_members x.plan.stop h d p)
  members_goes most x z l n p d c o (mem_last {k = k} {r = r} m a) e b =
      goes_end (member_goes most (moved x l n p d (c ∷ o)) z m (omega arith) b)
      (λ l n q. (ws_along a).same ∙ shut_object x l n q (k ∷ d) c o r)
  members_goes most x z l n p d c o (mem_more {k = k} m a b h) e y =
      goes_then (λ q. seek_members x.plan.stop h (k ∷ d) q)
      (goes_end (member_goes most (moved x l n p d (c ∷ o)) z m (omega arith) y)
      (λ l n q. (ws_along a then quiet (refl, refl) then ws_along b).same))
      (λ l n q. members_goes most x z l n q (k ∷ d) c o h (omega arith)
      (omega (arith, member_least m, ws_shorter a, ws_shorter b)))

-- the search over s is the search u in the order of its text, or it had no room behind k entries
pub data Agrees (plan : Plan) (s : List ℕ) (most : ℕ) (u : Out) : Type 0 where
  no_room : (k : ℕ) → plan.roomy k ≡ false → 5 * k ≤ most → searched plan s ≡ Full → Agrees plan s most u
  agrees : searched plan s ≡ place s u → Agrees plan s most u

-- a search at its start
abbrev starting : Plan → List ℕ → Held
starting plan s = record { plan = plan; s = s; l = s; n = []; p = 0; c = []; o = [] }

said : {plan : Plan} {s : List ℕ} {most : ℕ} {u : Out} → Goes most (starting plan s) s [] [] [] u → Agrees plan s most u
unfolding run
said (goes_on l n h) = agrees h
said (goes_found h) = agrees h
said (goes_full k y h) = no_room k y.0 y.1 h

-- so it is for every derivation of a text, with most = length s + 6 n
pub text_names : (plan : Plan) (n : ℕ) {s : List ℕ} {j : Json} (d : Text s j) → depth j ≤ n
    → Agrees plan s (length s + 6 * n) (seek_text plan.stop d)
unfolding seek_text run
text_names plan n {s = s} (text a v b) e =
    said
    (before s [] 0 [] [] (ws_along {x = starting plan s} a).same
    (goes_end (value_goes (length s + 6 * n) (starting plan s) n v e (omega (arith, ws_shorter a)))
    (λ l n q. (ws_along {x = moved (starting plan s) l n q [] []} b).same)))
