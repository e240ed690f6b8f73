-- Rule 11: the grammar of RFC 8259, over bytes that are UTF-8 (rule 9). `X w j r`: w is an X that says j, and then r.
-- The white space that the RFC puts around the six structural characters stands behind a value or behind a bracket,
-- a comma or a colon here.
-- Assumes nothing: these are definitions.
use Rattle.std.specs.Prelude.{ℕ, zero, suc, ◌≤◌, ◌≡◌, List, [], ◌∷◌, ◌++◌}
use Rattle.json_text.specs.Tree.{Json, Values, Fields}

-- ws = *( %x20 / %x09 / %x0A / %x0D )
pub data IsWs : ℕ → Type 0 where
  space : IsWs 0x20
  tab : IsWs 0x09
  line : IsWs 0x0a
  return : IsWs 0x0d

-- a run of white space
pub data Ws : List ℕ → List ℕ → Type 0 where
  ws_none : {r : List ℕ} → Ws r r
  ws_more : {b : ℕ} {w r : List ℕ} → IsWs b → Ws w r → Ws (b ∷ w) r

-- the bytes ks, one by one
pub data Lit : List ℕ → List ℕ → List ℕ → Type 0 where
  lit_none : {r : List ℕ} → Lit [] r r
  lit_more : {k : ℕ} {ks w r : List ℕ} → Lit ks w r → Lit (k ∷ ks) (k ∷ w) r

-- DIGIT = %x30-39
abbrev pub Digit : ℕ → Type 0
Digit b = (0x30 ≤ b) × (b ≤ 0x39)

-- digit1-9 = %x31-39
abbrev pub Digit19 : ℕ → Type 0
Digit19 b = (0x31 ≤ b) × (b ≤ 0x39)

-- *DIGIT
pub data Digits : List ℕ → List ℕ → List ℕ → Type 0 where
  digits_none : {r : List ℕ} → Digits r [] r
  digits_more : {d : ℕ} {w ds r : List ℕ} → Digit d → Digits w ds r → Digits (d ∷ w) (d ∷ ds) r

-- int = zero / ( digit1-9 *DIGIT )
pub data Int : List ℕ → List ℕ → List ℕ → Type 0 where
  int_zero : {r : List ℕ} → Int (0x30 ∷ r) (0x30 ∷ []) r
  int_more : {d : ℕ} {w ds r : List ℕ} → Digit19 d → Digits w ds r → Int (d ∷ w) (d ∷ ds) r

-- 1*DIGIT
pub data Some : List ℕ → List ℕ → List ℕ → Type 0 where
  some : {d : ℕ} {w ds r : List ℕ} → Digit d → Digits w ds r → Some (d ∷ w) (d ∷ ds) r

-- [ frac ], frac = decimal-point 1*DIGIT
pub data Frac : List ℕ → List ℕ → List ℕ → Type 0 where
  frac_none : {r : List ℕ} → Frac r [] r
  frac_some : {w ds r : List ℕ} → Some w ds r → Frac (0x2e ∷ w) (0x2e ∷ ds) r

-- e = %x65 / %x45
pub data IsE : ℕ → Type 0 where
  small : IsE 0x65
  capital : IsE 0x45

-- plus / minus
pub data IsSign : ℕ → Type 0 where
  plus : IsSign 0x2b
  minus : IsSign 0x2d

-- [ exp ], exp = e [ minus / plus ] 1*DIGIT
pub data Exp : List ℕ → List ℕ → List ℕ → Type 0 where
  exp_none : {r : List ℕ} → Exp r [] r
  exp_plain : {e : ℕ} {w ds r : List ℕ} → IsE e → Some w ds r → Exp (e ∷ w) (e ∷ ds) r
  exp_signed : {e i : ℕ} {w ds r : List ℕ} → IsE e → IsSign i → Some w ds r → Exp (e ∷ i ∷ w) (e ∷ i ∷ ds) r

-- int [ frac ] [ exp ]
pub data Magnitude : List ℕ → List ℕ → List ℕ → Type 0 where
  magnitude : {w is a fs b es r : List ℕ} → Int w is a → Frac a fs b → Exp b es r → Magnitude w (is ++ (fs ++ es)) r

-- number = [ minus ] int [ frac ] [ exp ]
pub data Number : List ℕ → List ℕ → List ℕ → Type 0 where
  num_plain : {w ds r : List ℕ} → Magnitude w ds r → Number w ds r
  num_minus : {w ds r : List ℕ} → Magnitude w ds r → Number (0x2d ∷ w) (0x2d ∷ ds) r

-- HEXDIG, in upper or lower case
pub data HexDigit : ℕ → Type 0 where
  hex_digit : {b : ℕ} → 0x30 ≤ b → b ≤ 0x39 → HexDigit b
  hex_upper : {b : ℕ} → 0x41 ≤ b → b ≤ 0x46 → HexDigit b
  hex_lower : {b : ℕ} → 0x61 ≤ b → b ≤ 0x66 → HexDigit b

-- n hexadecimal digits
pub data Hex : ℕ → List ℕ → List ℕ → List ℕ → Type 0 where
  hex_none : {r : List ℕ} → Hex zero r [] r
  hex_more : {n d : ℕ} {w ds r : List ℕ} → HexDigit d → Hex n w ds r → Hex (suc n) (d ∷ w) (d ∷ ds) r

-- %x22 / %x5C / %x2F / %x62 / %x66 / %x6E / %x72 / %x74
pub data IsEscape : ℕ → Type 0 where
  quote : IsEscape 0x22
  backslash : IsEscape 0x5c
  slash : IsEscape 0x2f
  backspace : IsEscape 0x62
  feed : IsEscape 0x66
  newline : IsEscape 0x6e
  carriage : IsEscape 0x72
  tabulator : IsEscape 0x74

-- what follows the escape character: one of the eight, or u 4HEXDIG
pub data Escape : List ℕ → List ℕ → List ℕ → Type 0 where
  esc_byte : {b : ℕ} {r : List ℕ} → IsEscape b → Escape (b ∷ r) (b ∷ []) r
  esc_hex : {w ds r : List ℕ} → Hex 4 w ds r → Escape (0x75 ∷ w) (0x75 ∷ ds) r

-- unescaped = %x20-21 / %x23-5B / %x5D-10FFFF: over bytes, all from 0x20 on but the mark and the backslash
abbrev pub Plain : ℕ → Type 0
Plain b = (0x20 ≤ b) × (b ≤ 0xff) × (b ≡ 0x22 → ⊥) × (b ≡ 0x5c → ⊥)

-- string = quotation-mark *char quotation-mark; Chars is what follows the first mark
pub data Chars : List ℕ → List ℕ → List ℕ → Type 0 where
  chars_close : {r : List ℕ} → Chars (0x22 ∷ r) [] r
  chars_plain : {b : ℕ} {w cs r : List ℕ} → Plain b → Chars w cs r → Chars (b ∷ w) (b ∷ cs) r
  chars_escape : {w es v cs r : List ℕ} → Escape w es v → Chars v cs r → Chars (0x5c ∷ w) (0x5c ∷ (es ++ cs)) r

-- value = false / null / true / object / array / number / string: a value that holds no other
pub data Scalar : List ℕ → Json → List ℕ → Type 0 where
  sc_null : {w r : List ℕ} → Lit (0x75 ∷ 0x6c ∷ 0x6c ∷ []) w r → Scalar (0x6e ∷ w) Json.null r
  sc_true : {w r : List ℕ} → Lit (0x72 ∷ 0x75 ∷ 0x65 ∷ []) w r → Scalar (0x74 ∷ w) Json.true r
  sc_false : {w r : List ℕ} → Lit (0x61 ∷ 0x6c ∷ 0x73 ∷ 0x65 ∷ []) w r → Scalar (0x66 ∷ w) Json.false r
  sc_number : {w ds r : List ℕ} → Number w ds r → Scalar w (Json.number ds) r
  sc_string : {w cs r : List ℕ} → Chars w cs r → Scalar (0x22 ∷ w) (Json.string cs) r

-- string name-separator, and the white space behind it
pub data Name : List ℕ → List ℕ → List ℕ → Type 0 where
  name : {w k a b r : List ℕ} → Chars w k a → Ws a (0x3a ∷ b) → Ws b r → Name (0x22 ∷ w) k r

mutual
  -- array = begin-array [ elements ] end-array, object = begin-object [ members ] end-object
  pub data Value : List ℕ → Json → List ℕ → Type 0 where
    val_scalar : {w r : List ℕ} {j : Json} → Scalar w j r → Value w j r
    val_array0 : {w r : List ℕ} → Ws w (0x5d ∷ r) → Value (0x5b ∷ w) (Json.array Values.values_end) r
    val_array : {w v r : List ℕ} {js : Values} → Ws w v → Elements v js r → Value (0x5b ∷ w) (Json.array js) r
    val_object0 : {w r : List ℕ} → Ws w (0x7d ∷ r) → Value (0x7b ∷ w) (Json.object Fields.fields_end) r
    val_object : {w v r : List ℕ} {ms : Fields} → Ws w v → Members v ms r → Value (0x7b ∷ w) (Json.object ms) r

  -- value *( value-separator value ) end-array
  pub data Elements : List ℕ → Values → List ℕ → Type 0 where
    elem_last : {w a r : List ℕ} {j : Json} → Value w j a → Ws a (0x5d ∷ r) →
        Elements w (Values.value_then j Values.values_end) r
    elem_more : {w a b c r : List ℕ} {j : Json} {js : Values} → Value w j a → Ws a (0x2c ∷ b) → Ws b c →
        Elements c js r → Elements w (Values.value_then j js) r

  -- member = string name-separator value
  pub data Member : List ℕ → List ℕ → Json → List ℕ → Type 0 where
    member : {w k v r : List ℕ} {j : Json} → Name w k v → Value v j r → Member w k j r

  -- member *( value-separator member ) end-object
  pub data Members : List ℕ → Fields → List ℕ → Type 0 where
    mem_last : {w k a r : List ℕ} {j : Json} → Member w k j a → Ws a (0x7d ∷ r) →
        Members w (Fields.field_then k j Fields.fields_end) r
    mem_more : {w k a b c r : List ℕ} {j : Json} {ms : Fields} → Member w k j a → Ws a (0x2c ∷ b) → Ws b c →
        Members c ms r → Members w (Fields.field_then k j ms) r

-- JSON-text = ws value ws
pub data Text : List ℕ → Json → Type 0 where
  text : {w a b : List ℕ} {j : Json} → Ws w a → Value a j b → Ws b [] → Text w j
