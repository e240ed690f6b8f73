-- The scanners at any place of any bytes: what their answers say.
-- Assumes nothing.
use Prim.Native.Nat.{ℕ, ◌≤◌}
use mathlib.Core.Path.{◌≡◌, sym, ap}
use mathlib.Core.List.{List}
use lib.ListN.{length, drop}
use Rattle.std.proofs.Common.{Result, Ok, Err}
use Rattle.json_text.specs.declared.error.ScanError.{ScanError}
use Rattle.json_text.specs.declared.error.ScanError.TheVariants.{Broke, Deep}
use Rattle.json_text.specs.Grammar.{IsWs, Ws}
use Rattle.json_text.specs.Faults.{Fault, Not, SomeTo}
use Rattle.json_text.specs.Faults.Fault.{broke, deep}
use Rattle.json_text.specs.Faults.SomeTo.{to_some}
use Rattle.json_text.specs.Numbers.{digits_spelled, some_unique, no_some}
use Rattle.json_text.specs.Scans.{Says, LitSaid, SomeSaid, NameSaid, ValueSaid}
use Rattle.json_text.specs.Scans.Says.{says_past, says_broke, says_deep}
use Rattle.json_text.specs.Parse.{Got, past_ws, lit_run, some_run, name_run, front_run}
use Rattle.json_text.specs.Parse.Got.{got, lost}
use Rattle.json_text.specs.Answer.{place_of, end_of, literal_of, digits_of, name_of, value_of}
use Rattle.json_text.proofs.Unique.{lit_unique, name_unique, value_unique}
use Rattle.json_text.proofs.Excluded.{no_lit, no_name, no_value}
use Rattle.json_text.proofs.OneFault.{Same, within, lit_same, some_same, name_same, value_same}
use Rattle.json_text.proofs.Cuts.{Cut, ◌then◌, one, spelled, drop-cut, ws_reads, lit_reads, name_reads, value_reads}
use Rattle.json_text.proofs.Breaks.{lit_breaks, some_breaks, name_breaks, value_breaks}
use Rattle.json_text.proofs.Tops.{place}
use Rattle.json_text.proofs.Answers.{position, apart, past_says}

module _ {s : List ℕ} {Yes : List ℕ → Type 0} {No : Fault → List ℕ → Type 0} where
  -- a scan and a reading agree, where each says one thing only
  agree_end : ((r q : List ℕ) → Yes r → Yes q → r ≡ q) → ((f : Fault) (r q : List ℕ) → Yes r → No f q → ⊥) →
      ((f g : Fault) (r q : List ℕ) → No f r → No g q → Same f g r q) → {o : Result ℕ ScanError} → Says s Yes No o →
      (g : Got Yes No) → o ≡ end_of s g
  agree_end u x y (says_past {p = p} l k) (got r m) = ap Ok (position s r p l (u _ _ k m))
  agree_end u x y (says_past l k) (lost broke r m) = absurd (x _ _ _ k m)
  agree_end u x y (says_past l k) (lost deep r m) = absurd (x _ _ _ k m)
  agree_end u x y (says_broke l k) (got r m) = absurd (x _ _ _ m k)
  agree_end u x y (says_broke {p = p} l k) (lost broke r m) = ap Err (ap Broke (position s r p l (y _ _ _ _ k m).place))
  agree_end u x y (says_broke l k) (lost deep r m) = absurd (apart (y _ _ _ _ k m).kind)
  agree_end u x y (says_deep l k) (got r m) = absurd (x _ _ _ m k)
  agree_end u x y (says_deep l k) (lost broke r m) = absurd (apart (sym (y _ _ _ _ k m).kind))
  agree_end u x y (says_deep {p = p} l k) (lost deep r m) = ap Err (ap Deep (position s r p l (y _ _ _ _ k m).place))

  -- a reading says where it ends, where that is a last part of s
  end_says : ((r : List ℕ) → Yes r → Cut s r) → ((f : Fault) (r : List ℕ) → No f r → Cut s r) → (g : Got Yes No) →
      Says s Yes No (end_of s g)
  end_says c d (got r k) = let p = place s r (c r k) in says_past p.0 (rw p.1 k)
  end_says c d (lost broke r k) = let p = place s r (d broke r k) in says_broke p.0 (rw p.1 k)
  end_says c d (lost deep r k) = let p = place s r (d deep r k) in says_deep p.0 (rw p.1 k)

-- one digit or more, and then r
some_cut : {w ds r : List ℕ} → SomeTo w ds r → Cut w r
some_cut (to_some {d = d} {ds = ds} {r = r} y h n) = one d (spelled ds r (digits_spelled h))

module _ (s : List ℕ) (at : ℕ) {o : Result ℕ ScanError} where
  -- the bytes of a word
  pub literal_is : {ks : List ℕ} → LitSaid s at ks o → o ≡ literal_of ks s (drop at s)
  unfolding literal_of
  literal_is {ks = ks} a =
      agree_end (λ r q. lit_unique) (λ f r q k m. no_lit m k) (λ f g r q. lit_same) a (lit_run ks (drop at s))

  pub literal_said : (ks : List ℕ) → o ≡ literal_of ks s (drop at s) → LitSaid s at ks o
  unfolding literal_of
  literal_said ks e =
      rw e (end_says (λ r k. drop-cut s at then (lit_reads k).cut) (λ f r k. drop-cut s at then (lit_breaks k).cut)
      (lit_run ks (drop at s)))

  -- one digit or more
  pub digits_is : SomeSaid s at o → o ≡ digits_of s (drop at s)
  unfolding digits_of
  digits_is a =
      agree_end (λ r q k m. (some_unique k.1 m.1).1) (λ f r q k m. no_some m k.1) (λ f g r q. some_same) a
      (some_run (drop at s))

  pub digits_said : o ≡ digits_of s (drop at s) → SomeSaid s at o
  unfolding digits_of
  digits_said e =
      rw e (end_says (λ r k. drop-cut s at then some_cut k.1) (λ f r k. drop-cut s at then (some_breaks k).cut)
      (some_run (drop at s)))

  -- a name
  pub name_is : NameSaid s at o → o ≡ name_of s (drop at s)
  unfolding name_of
  name_is a =
      agree_end (λ r q k m. (name_unique k.1 k.2 m.1 m.2).1) (λ f r q k m. no_name m k.1)
      (λ f g r q. name_same) a (name_run (drop at s))

  pub name_said : o ≡ name_of s (drop at s) → NameSaid s at o
  unfolding name_of
  name_said e =
      rw e (end_says (λ r k. drop-cut s at then (name_reads k.1).cut) (λ f r k. drop-cut s at then (name_breaks k).cut)
      (name_run (drop at s)))

  -- a value of at most n levels
  pub value_is : {n : ℕ} → ValueSaid s at n o → o ≡ value_of n s (drop at s)
  unfolding value_of
  value_is {n = n} a =
      agree_end (λ r q k m. (value_unique k.1 k.2 m.1 m.2).1)
      (λ f r q k m. within (no_value m k.1 k.2) k.3) (λ f g r q. value_same) a (front_run n (drop at s))

  pub value_said : (n : ℕ) → o ≡ value_of n s (drop at s) → ValueSaid s at n o
  unfolding value_of
  value_said n e =
      rw e (end_says (λ r k. drop-cut s at then (value_reads k.1).cut)
      (λ f r k. drop-cut s at then (value_breaks k).cut) (front_run n (drop at s)))

-- the end of the white space
pub ws_said : (s : List ℕ) (at : ℕ) {p : ℕ} → p ≡ place_of s (past_ws (drop at s)) →
    (p ≤ length s) × Ws (drop at s) (drop p s) × Not IsWs (drop p s)
ws_said s at e =
    let y = past_says (drop at s) in
    let q = place s (past_ws (drop at s)) (drop-cut s at then (ws_reads y.0).cut) in
    rw e (q.0, rw q.1 y.0, rw q.1 y.1)
