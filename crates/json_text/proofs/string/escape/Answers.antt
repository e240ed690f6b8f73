-- `json_text::string::escape` meets its contract.
-- Assumes nothing.
use Rattle.std.proofs.Common.{◌≡◌, ℕ, ◌⊎◌, inl, inr, refl, arith}
use Rattle.json_text.specs.Grammar.{IsEscape}
use Rattle.json_text.specs.Grammar.IsEscape.{quote, backslash, slash, backspace, feed, newline, carriage, tabulator}
use Rattle.json_text.specs.Grammar.Escape.{esc_byte, esc_hex}
use Rattle.json_text.specs.Faults.{Escapes}
use Rattle.json_text.specs.Faults.Escapes.{escapes_byte, escapes_hex}
use Rattle.json_text.specs.Faults.NoEscape.{esc_bad, esc_in_hex}
use Rattle.json_text.specs.Scans.Says.{says_past, says_broke}
use Rattle.json_text.proofs.Laws.{stands, byte, peeked_not, ended, says_as, escape_byte}
use Rattle.json_text.proofs.string.escape.Goals as goal

abbrev OneOf : ℕ → Type 0
OneOf b =
    (b ≡ 0x22) ⊎ ((b ≡ 0x2f) ⊎ ((b ≡ 0x5c) ⊎ ((b ≡ 0x62) ⊎ ((b ≡ 0x66) ⊎ ((b ≡ 0x6e) ⊎ ((b ≡ 0x72) ⊎ (b ≡ 0x74)))))))

-- the bytes that make an escape
one : {b : ℕ} → OneOf b → IsEscape b
one (inl e) = rw e quote
one (inr (inl e)) = rw e slash
one (inr (inr (inl e))) = rw e backslash
one (inr (inr (inr (inl e)))) = rw e backspace
one (inr (inr (inr (inr (inl e))))) = rw e feed
one (inr (inr (inr (inr (inr (inl e)))))) = rw e newline
one (inr (inr (inr (inr (inr (inr (inl e))))))) = rw e carriage
one (inr (inr (inr (inr (inr (inr (inr e))))))) = rw e tabulator

none : {b : ℕ} → (OneOf b → ⊥) → IsEscape b → ⊥
none f quote = f (inl refl)
none f slash = f (inr (inl refl))
none f backslash = f (inr (inr (inl refl)))
none f backspace = f (inr (inr (inr (inl refl))))
none f feed = f (inr (inr (inr (inr (inl refl)))))
none f newline = f (inr (inr (inr (inr (inr (inl refl))))))
none f carriage = f (inr (inr (inr (inr (inr (inr (inl refl)))))))
none f tabulator = f (inr (inr (inr (inr (inr (inr (inr refl)))))))

pub returns-in-Some-eq34 : goal.returns-in-Some-eq34
returns-in-Some-eq34 c =
    let h = stands IsEscape escape_byte c.in-Some-eq34.ensures (one c.in-Some-eq34.field-0-test) in
    rw h.split (says_past h.next (_, esc_byte h.is))

pub returns-in-Some-eq117 : goal.returns-in-Some-eq117
returns-in-Some-eq117 c =
    let h = byte 0x75 c.in-Some-eq117.ensures c.in-Some-eq117.field-0-test (omega arith) in
    rw h.split (says_as (λ r k. (_, esc_hex k.1)) (λ f r k. esc_in_hex k) c.hex.ensures)

other : (b : ℕ) → (IsEscape b → ⊥) → (b ≡ 0x75 → ⊥) → Escapes b → ⊥
other _ f g (escapes_byte e) = f e
other _ f g escapes_hex = g refl

pub returns-in_default : goal.returns-in_default
returns-in_default c =
    let t = c.in_default.field-0-test in
    says_broke c.requires (esc_bad (peeked_not c.in_default.ensures (other _ (none t.0.1) t.1)))

pub returns-in_default-2 : goal.returns-in_default-2
returns-in_default-2 c = says_broke c.requires (esc_bad (ended c.peek.ensures c.in_default.is))
