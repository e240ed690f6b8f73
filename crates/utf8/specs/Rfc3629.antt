-- The syntax of UTF-8, by the grammar of RFC 3629, section 4. `X w r`: the bytes w start with an X, and then r.
-- Assumes nothing: these are definitions.
use Rattle.std.specs.Prelude.{ℕ, ◌≤◌, List, ◌∷◌}

-- %xLO-HI
abbrev pub In : ℕ → ℕ → ℕ → Type 0
In lo hi b = (lo ≤ b) × (b ≤ hi)

-- UTF8-tail = %x80-BF
abbrev pub Tail : ℕ → Type 0
Tail b = In 0x80 0xbf b

-- UTF8-char = UTF8-1 / UTF8-2 / UTF8-3 / UTF8-4
-- UTF8-1 = %x00-7F
-- UTF8-2 = %xC2-DF UTF8-tail
-- UTF8-3 = %xE0 %xA0-BF UTF8-tail / %xE1-EC 2( UTF8-tail ) / %xED %x80-9F UTF8-tail / %xEE-EF 2( UTF8-tail )
-- UTF8-4 = %xF0 %x90-BF 2( UTF8-tail ) / %xF1-F3 3( UTF8-tail ) / %xF4 %x80-8F 2( UTF8-tail )
pub data Char : List ℕ → List ℕ → Type 0 where
  utf8_1 : {a : ℕ} {r : List ℕ} → In 0x00 0x7f a → Char (a ∷ r) r
  utf8_2 : {a b : ℕ} {r : List ℕ} → In 0xc2 0xdf a → Tail b → Char (a ∷ b ∷ r) r
  utf8_3_e0 : {b c : ℕ} {r : List ℕ} → In 0xa0 0xbf b → Tail c → Char (0xe0 ∷ b ∷ c ∷ r) r
  utf8_3_e1 : {a b c : ℕ} {r : List ℕ} → In 0xe1 0xec a → Tail b → Tail c → Char (a ∷ b ∷ c ∷ r) r
  utf8_3_ed : {b c : ℕ} {r : List ℕ} → In 0x80 0x9f b → Tail c → Char (0xed ∷ b ∷ c ∷ r) r
  utf8_3_ee : {a b c : ℕ} {r : List ℕ} → In 0xee 0xef a → Tail b → Tail c → Char (a ∷ b ∷ c ∷ r) r
  utf8_4_f0 : {b c d : ℕ} {r : List ℕ} → In 0x90 0xbf b → Tail c → Tail d → Char (0xf0 ∷ b ∷ c ∷ d ∷ r) r
  utf8_4_f1 : {a b c d : ℕ} {r : List ℕ} → In 0xf1 0xf3 a → Tail b → Tail c → Tail d → Char (a ∷ b ∷ c ∷ d ∷ r) r
  utf8_4_f4 : {b c d : ℕ} {r : List ℕ} → In 0x80 0x8f b → Tail c → Tail d → Char (0xf4 ∷ b ∷ c ∷ d ∷ r) r

-- UTF8-octets = *( UTF8-char )
pub data Octets : List ℕ → List ℕ → Type 0 where
  octets_none : {r : List ℕ} → Octets r r
  octets_more : {w v r : List ℕ} → Char w v → Octets v r → Octets w r
