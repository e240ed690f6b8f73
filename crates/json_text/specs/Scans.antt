-- What the scanners' contracts say, at positions of the input s.
-- Assumes nothing: these are definitions.
use Rattle.std.specs.Prelude.{ℕ, suc, ◌+◌, ◌≤◌, ◌<◌, ◌≡◌, Bool, true, false, List, [], ◌∷◌, length, drop, Option, Some, None, Result, Ok, Err}
use Rattle.json_text.specs.declared.error.ScanError.{ScanError}
use Rattle.json_text.specs.declared.error.ScanError.TheVariants.{Broke, Deep}
use Rattle.json_text.specs.declared.value.Kind.{Kind}
use Rattle.json_text.specs.declared.value.Kind.TheVariants.{Array, Object}
use Rattle.json_text.specs.declared.value.Next.{Next}
use Rattle.json_text.specs.declared.value.Next.TheVariants.{More, End}
use Rattle.json_text.specs.Tree.{Json, Values, Fields, depth, depths, depths_of}
use Rattle.json_text.specs.Grammar.{IsWs, Ws, Lit, Digit, Digits, Hex, Escape, Chars, Scalar, Name, Value, Elements}
use Rattle.json_text.specs.Grammar.{Member, Members, Text}
use Rattle.json_text.specs.Faults.{Fault, Not, Is, Stop, SomeTo, ExpTo, TailTo, MagnitudeTo, NoSome, NoExp, NoTail}
use Rattle.json_text.specs.Faults.{NoMagnitude, Follows, NoLit, NoHex, NoEscape, NoChars, NoScalar, NoName, NoValue}
use Rattle.json_text.specs.Faults.{NoElements, NoMember, NoMembers, NoText}
use Rattle.json_text.specs.Faults.Fault.{broke, deep}

-- the answer o, over the input s: Yes holds of what follows the position p of an `Ok p`, and No of a fault's kind and
-- of what follows its position
pub data Says (s : List ℕ) (Yes : List ℕ → Type 0) (No : Fault → List ℕ → Type 0) : Result ℕ ScanError → Type 0 where
  says_past : {p : ℕ} → p ≤ length s → Yes (drop p s) → Says s Yes No (Ok p)
  says_broke : {p : ℕ} → p ≤ length s → No broke (drop p s) → Says s Yes No (Err (Broke p))
  says_deep : {p : ℕ} → p ≤ length s → No deep (drop p s) → Says s Yes No (Err (Deep p))

-- what stands at `at`: a byte, or 256 at the end
pub data Peeks (s : List ℕ) (at : ℕ) : ℕ → Type 0 where
  peeks_end : at ≡ length s → drop at s ≡ [] → Peeks s at 256
  peeks_byte : {b : ℕ} → at < length s → b < 256 → drop at s ≡ b ∷ drop (at + 1) s → Peeks s at b

-- r is the place `at`, or the end where `at` is past it
pub record Clamped (s : List ℕ) (at r : ℕ) : Type 0 where
  pub within : r ≤ length s
  pub same : drop r s ≡ drop at s

-- a test's answer t says whether P holds
pub data Tells (P : Type 0) : Bool → Type 0 where
  tells_true : P → Tells P true
  tells_false : (P → ⊥) → Tells P false

-- the run of white space from `at` ends at p
pub record WsTo (s : List ℕ) (at p : ℕ) : Type 0 where
  pub from : at ≤ p
  pub within : p ≤ length s
  pub run : Ws (drop at s) (drop p s)
  pub stop : Not IsWs (drop p s)

-- the run of digits from `at` ends at p
pub record DigitsTo (s : List ℕ) (at p : ℕ) : Type 0 where
  pub within : p ≤ length s
  pub run : (ds : List ℕ) × Digits (drop at s) ds (drop p s)
  pub stop : Not Digit (drop p s)

-- what follows a value at `at`, between brackets that `close` ends: a comma, and the next value at p
pub record MoreAt (s : List ℕ) (at p : ℕ) : Type 0 where
  pub late : at < p
  pub within : p ≤ length s
  pub rest : List ℕ
  pub comma : Ws (drop at s) (0x2c ∷ rest)
  pub run : Ws rest (drop p s)
  pub stop : Not IsWs (drop p s)

-- the closing bracket, and p past it
pub record EndAt (s : List ℕ) (at close p : ℕ) : Type 0 where
  pub within : p ≤ length s
  pub run : Ws (drop at s) (close ∷ drop p s)

-- neither, at p
pub record BadAt (s : List ℕ) (at close p : ℕ) : Type 0 where
  pub within : p ≤ length s
  pub run : Ws (drop at s) (drop p s)
  pub stop : Not (Follows close) (drop p s)

-- what follows a value at `at`
pub data AfterSaid (s : List ℕ) (at close : ℕ) : Result Next ScanError → Type 0 where
  after_more : {p : ℕ} → MoreAt s at p → AfterSaid s at close (Ok (More p))
  after_end : {p : ℕ} → EndAt s at close p → AfterSaid s at close (Ok (End p))
  after_bad : {p : ℕ} → BadAt s at close p → AfterSaid s at close (Err (Broke p))

-- n hexadecimal digits, and then r
abbrev pub HexOk : ℕ → List ℕ → List ℕ → Type 0
HexOk n w r = (ds : List ℕ) × Hex n w ds r

-- an escape, and then r
abbrev pub EscapeOk : List ℕ → List ℕ → Type 0
EscapeOk w r = (es : List ℕ) × Escape w es r

-- the rest of a string, and then r
abbrev pub CharsOk : List ℕ → List ℕ → Type 0
CharsOk w r = (cs : List ℕ) × Chars w cs r

-- a name with its colon and the white space behind it, and then r
abbrev pub NameOk : List ℕ → List ℕ → Type 0
NameOk w r = (k : List ℕ) × Name w k r × Not IsWs r

-- digits, as many as there are, and then r
abbrev pub SomeOk : List ℕ → List ℕ → Type 0
SomeOk w r = (ds : List ℕ) × SomeTo w ds r

-- an exponent or none, and then r
abbrev pub ExpOk : List ℕ → List ℕ → Type 0
ExpOk w r = (ds : List ℕ) × ExpTo w ds r

-- a fraction and an exponent or none, and then r
abbrev pub TailOk : List ℕ → List ℕ → Type 0
TailOk w r = (ds : List ℕ) × TailTo w ds r

-- a number without its sign, and then r
abbrev pub MagnitudeOk : List ℕ → List ℕ → Type 0
MagnitudeOk w r = (ds : List ℕ) × MagnitudeTo w ds r

-- the answer from `at` on: one digit or more
abbrev pub SomeSaid : List ℕ → ℕ → Result ℕ ScanError → Type 0
SomeSaid s at = Says s (SomeOk (drop at s)) (NoSome (drop at s))

-- the answer from `at` on: an exponent, if there is one
abbrev pub ExpSaid : List ℕ → ℕ → Result ℕ ScanError → Type 0
ExpSaid s at = Says s (ExpOk (drop at s)) (NoExp (drop at s))

-- the answer from `at` on: a fraction and an exponent, each if there is one
abbrev pub TailSaid : List ℕ → ℕ → Result ℕ ScanError → Type 0
TailSaid s at = Says s (TailOk (drop at s)) (NoTail (drop at s))

-- the answer from `at` on: a number without its sign
abbrev pub MagnitudeSaid : List ℕ → ℕ → Result ℕ ScanError → Type 0
MagnitudeSaid s at = Says s (MagnitudeOk (drop at s)) (NoMagnitude (drop at s))

-- a scalar that can be no longer, and then r
abbrev pub ScalarOk : List ℕ → List ℕ → Type 0
ScalarOk w r = (j : Json) × Scalar w j r × Stop j r

-- a value that can be no longer, of at most n levels, and then r
abbrev pub ValueOk : ℕ → List ℕ → List ℕ → Type 0
ValueOk n w r = (j : Json) × Value w j r × Stop j r × (depth j ≤ n)

-- a member of at most n levels, and then r
abbrev pub MemberOk : ℕ → List ℕ → List ℕ → Type 0
MemberOk n w r = (k : List ℕ) × (j : Json) × Member w k j r × Stop j r × (depth j ≤ n)

-- the answer from `at` on: the bytes ks
abbrev pub LitSaid : List ℕ → ℕ → List ℕ → Result ℕ ScanError → Type 0
LitSaid s at ks = Says s (Lit ks (drop at s)) (NoLit ks (drop at s))

-- the answer from `at` on: n hexadecimal digits
abbrev pub HexSaid : List ℕ → ℕ → ℕ → Result ℕ ScanError → Type 0
HexSaid s at n = Says s (HexOk n (drop at s)) (NoHex n (drop at s))

-- the answer from `at` on: what follows a backslash
abbrev pub EscapeSaid : List ℕ → ℕ → Result ℕ ScanError → Type 0
EscapeSaid s at = Says s (EscapeOk (drop at s)) (NoEscape (drop at s))

-- the answer from `at` on: the rest of a string
abbrev pub CharsSaid : List ℕ → ℕ → Result ℕ ScanError → Type 0
CharsSaid s at = Says s (CharsOk (drop at s)) (NoChars (drop at s))

-- the answer from `at` on: a scalar
abbrev pub ScalarSaid : List ℕ → ℕ → Result ℕ ScanError → Type 0
ScalarSaid s at = Says s (ScalarOk (drop at s)) (NoScalar (drop at s))

-- the answer from `at` on: a name and its colon
abbrev pub NameSaid : List ℕ → ℕ → Result ℕ ScanError → Type 0
NameSaid s at = Says s (NameOk (drop at s)) (NoName (drop at s))

-- from `at` on, with n levels left
abbrev pub ValueSaid : List ℕ → ℕ → ℕ → Result ℕ ScanError → Type 0
ValueSaid s at n = Says s (ValueOk n (drop at s)) (NoValue n (drop at s))

-- the value that the bracket b opens, where `at` is past b, and n levels are left inside
abbrev pub OpenSaid : ℕ → List ℕ → ℕ → ℕ → Result ℕ ScanError → Type 0
OpenSaid b s at n = Says s (ValueOk (suc n) (b ∷ drop at s)) (NoValue (suc n) (b ∷ drop at s))

-- the answer from `at` on: a member, with n levels left
abbrev pub MemberSaid : List ℕ → ℕ → ℕ → Result ℕ ScanError → Type 0
MemberSaid s at n = Says s (MemberOk n (drop at s)) (NoMember n (drop at s))

-- elements of at most n levels and the closing bracket, and then r
abbrev pub ElementsOk : ℕ → List ℕ → List ℕ → Type 0
ElementsOk n w r = (js : Values) × Elements w js r × (depths js ≤ n)

-- members of at most n levels and the closing bracket, and then r
abbrev pub MembersOk : ℕ → List ℕ → List ℕ → Type 0
MembersOk n w r = (ms : Fields) × Members w ms r × (depths_of ms ≤ n)

-- the bracket that opens an array or an object
abbrev pub opening : Kind → ℕ
opening Array = 0x5b
opening Object = 0x7b

-- and the one that closes it
abbrev pub closing : Kind → ℕ
closing Array = 0x5d
closing Object = 0x7d

-- whether an array or an object starts at `at`, and which
abbrev pub OpensAt : List ℕ → ℕ → Option Kind → Type 0
OpensAt s at None = Not (Is 0x5b) (drop at s) × Not (Is 0x7b) (drop at s)
OpensAt s at (Some k) = (at < length s) × (drop at s ≡ opening k ∷ drop (at + 1) s)

-- an item of at most n levels, and then r: a value, or a member
abbrev pub ItemOk : Kind → ℕ → List ℕ → List ℕ → Type 0
ItemOk Array = ValueOk
ItemOk Object = MemberOk

-- no item of at most n levels
abbrev pub NoItem : Kind → ℕ → List ℕ → Fault → List ℕ → Type 0
NoItem Array = NoValue
NoItem Object = NoMember

-- items of at most n levels and the closing bracket, and then r
abbrev pub ItemsOk : Kind → ℕ → List ℕ → List ℕ → Type 0
ItemsOk Array = ElementsOk
ItemsOk Object = MembersOk

-- no such items
abbrev pub NoItems : Kind → ℕ → List ℕ → Fault → List ℕ → Type 0
NoItems Array = NoElements
NoItems Object = NoMembers

-- the answer from `at` on: an item, with n levels left
abbrev pub ItemSaid : Kind → List ℕ → ℕ → ℕ → Result ℕ ScanError → Type 0
ItemSaid k s at n = Says s (ItemOk k n (drop at s)) (NoItem k n (drop at s))

-- the answer from `at` on: items and the closing bracket, with n levels left
abbrev pub ItemsSaid : Kind → List ℕ → ℕ → ℕ → Result ℕ ScanError → Type 0
ItemsSaid k s at n = Says s (ItemsOk k n (drop at s)) (NoItems k n (drop at s))

-- the answer from `at` on: elements and the closing bracket, with n levels left
abbrev pub ElementsSaid : List ℕ → ℕ → ℕ → Result ℕ ScanError → Type 0
ElementsSaid s at n = Says s (ElementsOk n (drop at s)) (NoElements n (drop at s))

-- the answer from `at` on: members and the closing bracket, with n levels left
abbrev pub MembersSaid : List ℕ → ℕ → ℕ → Result ℕ ScanError → Type 0
MembersSaid s at n = Says s (MembersOk n (drop at s)) (NoMembers n (drop at s))

-- the whole input is a text that says j, or no text
abbrev pub TextSaid : List ℕ → ℕ → Result ℕ ScanError → Type 0
TextSaid s n = Says s (λ r. (j : Json) × Text s j × (depth j ≤ n) × (r ≡ [])) (NoText n s)
