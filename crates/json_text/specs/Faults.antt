-- Where a scan from the left breaks off. `NoX .. w f r`: no X can be read from w; what was read of w before r was
-- right so far, and the fault is at r.
-- The fault is `broke`, or `deep` where an array or an object opens and no level is left.
-- Assumes nothing: these are definitions.
use Rattle.std.specs.Prelude.{ℕ, zero, suc, ◌≤◌, ◌≡◌, List, [], ◌∷◌, ◌++◌}
use Rattle.json_text.specs.Tree.{Json, depth}
use Rattle.json_text.specs.Grammar.{IsWs, Ws, Digit, Digit19, Digits, IsE, IsSign, HexDigit, IsEscape, Escape, Plain}
use Rattle.json_text.specs.Grammar.{Chars, Name, Value, Member}

-- the byte cannot stand there; or a bracket opens with no level left
pub data Fault : Type 0 where
  broke deep : Fault

-- w is at its end, or starts with a byte that is no P
pub data Not (P : ℕ → Type 0) : List ℕ → Type 0 where
  not_end : Not P []
  not_head : {b : ℕ} {w : List ℕ} → (P b → ⊥) → Not P (b ∷ w)

-- the byte a itself
pub data Is (a : ℕ) : ℕ → Type 0 where
  is : Is a a

-- a number and its parts, each as long as it can be
pub data IntTo : List ℕ → List ℕ → List ℕ → Type 0 where
  to_int_zero : {r : List ℕ} → IntTo (0x30 ∷ r) (0x30 ∷ []) r
  to_int_more : {d : ℕ} {w ds r : List ℕ} → Digit19 d → Digits w ds r → Not Digit r → IntTo (d ∷ w) (d ∷ ds) r

-- one digit or more, as many as there are
pub data SomeTo : List ℕ → List ℕ → List ℕ → Type 0 where
  to_some : {d : ℕ} {w ds r : List ℕ} → Digit d → Digits w ds r → Not Digit r → SomeTo (d ∷ w) (d ∷ ds) r

-- a fraction or none, as long as it can be
pub data FracTo : List ℕ → List ℕ → List ℕ → Type 0 where
  to_frac_none : {r : List ℕ} → Not (Is 0x2e) r → FracTo r [] r
  to_frac_some : {w ds r : List ℕ} → SomeTo w ds r → FracTo (0x2e ∷ w) (0x2e ∷ ds) r

-- an exponent or none, as long as it can be
pub data ExpTo : List ℕ → List ℕ → List ℕ → Type 0 where
  to_exp_none : {r : List ℕ} → Not IsE r → ExpTo r [] r
  to_exp_plain : {e : ℕ} {w ds r : List ℕ} → IsE e → SomeTo w ds r → ExpTo (e ∷ w) (e ∷ ds) r
  to_exp_signed : {e i : ℕ} {w ds r : List ℕ} → IsE e → IsSign i → SomeTo w ds r → ExpTo (e ∷ i ∷ w) (e ∷ i ∷ ds) r

-- what follows the integer part, as long as it can be
pub data TailTo : List ℕ → List ℕ → List ℕ → Type 0 where
  to_tail : {a fs b es r : List ℕ} → FracTo a fs b → ExpTo b es r → TailTo a (fs ++ es) r

-- a number without its sign, as long as it can be
pub data MagnitudeTo : List ℕ → List ℕ → List ℕ → Type 0 where
  to_magnitude : {w is a ts r : List ℕ} → IntTo w is a → TailTo a ts r → MagnitudeTo w (is ++ ts) r

-- a number, as long as it can be
pub data NumberTo : List ℕ → List ℕ → List ℕ → Type 0 where
  to_plain : {w ds r : List ℕ} → MagnitudeTo w ds r → NumberTo w ds r
  to_minus : {w ds r : List ℕ} → MagnitudeTo w ds r → NumberTo (0x2d ∷ w) (0x2d ∷ ds) r

-- j can be no longer: a number goes on as long as it can
pub data Stop : Json → List ℕ → Type 0 where
  stop_null : {r : List ℕ} → Stop Json.null r
  stop_true : {r : List ℕ} → Stop Json.true r
  stop_false : {r : List ℕ} → Stop Json.false r
  stop_number : {ds r : List ℕ} → NumberTo (ds ++ r) ds r → Stop (Json.number ds) r
  stop_string : {cs r : List ℕ} → Stop (Json.string cs) r
  stop_array : {js : _} {r : List ℕ} → Stop (Json.array js) r
  stop_object : {ms : _} {r : List ℕ} → Stop (Json.object ms) r

-- what a scalar starts with
pub data Starts : ℕ → Type 0 where
  starts_null : Starts 0x6e
  starts_string : Starts 0x22
  starts_true : Starts 0x74
  starts_false : Starts 0x66
  starts_minus : Starts 0x2d
  starts_number : {b : ℕ} → Digit b → Starts b

-- what may follow a value between brackets that `close` ends
pub data Follows (close : ℕ) : ℕ → Type 0 where
  follows_ws : {b : ℕ} → IsWs b → Follows close b
  follows_comma : Follows close 0x2c
  follows_close : Follows close close

-- a literal word
pub data NoLit : List ℕ → List ℕ → Fault → List ℕ → Type 0 where
  lit_bad : {k : ℕ} {ks w : List ℕ} → Not (Is k) w → NoLit (k ∷ ks) w broke w
  lit_on : {k : ℕ} {ks w r : List ℕ} {f : Fault} → NoLit ks w f r → NoLit (k ∷ ks) (k ∷ w) f r

-- n hexadecimal digits
pub data NoHex : ℕ → List ℕ → Fault → List ℕ → Type 0 where
  hex_bad : {n : ℕ} {w : List ℕ} → Not HexDigit w → NoHex (suc n) w broke w
  hex_on : {n d : ℕ} {w r : List ℕ} {f : Fault} → HexDigit d → NoHex n w f r → NoHex (suc n) (d ∷ w) f r

-- what may follow a backslash
pub data Escapes : ℕ → Type 0 where
  escapes_byte : {b : ℕ} → IsEscape b → Escapes b
  escapes_hex : Escapes 0x75

-- what follows a backslash
pub data NoEscape : List ℕ → Fault → List ℕ → Type 0 where
  esc_bad : {w : List ℕ} → Not Escapes w → NoEscape w broke w
  esc_in_hex : {w r : List ℕ} {f : Fault} → NoHex 4 w f r → NoEscape (0x75 ∷ w) f r

-- what may stand in a string
pub data InChars : ℕ → Type 0 where
  in_close : InChars 0x22
  in_escape : InChars 0x5c
  in_plain : {b : ℕ} → Plain b → InChars b

-- a string, from past its first mark
pub data NoChars : List ℕ → Fault → List ℕ → Type 0 where
  chars_bad : {w : List ℕ} → Not InChars w → NoChars w broke w
  chars_on : {b : ℕ} {w r : List ℕ} {f : Fault} → Plain b → NoChars w f r → NoChars (b ∷ w) f r
  chars_in_escape : {w r : List ℕ} {f : Fault} → NoEscape w f r → NoChars (0x5c ∷ w) f r
  chars_after_escape : {w es v r : List ℕ} {f : Fault} → Escape w es v → NoChars v f r → NoChars (0x5c ∷ w) f r

-- one digit or more
pub data NoSome : List ℕ → Fault → List ℕ → Type 0 where
  some_bad : {w : List ℕ} → Not Digit w → NoSome w broke w

-- an exponent
pub data NoExp : List ℕ → Fault → List ℕ → Type 0 where
  exp_in : {e : ℕ} {w r : List ℕ} {f : Fault} → IsE e → Not IsSign w → NoSome w f r → NoExp (e ∷ w) f r
  exp_in_signed : {e i : ℕ} {w r : List ℕ} {f : Fault} → IsE e → IsSign i → NoSome w f r → NoExp (e ∷ i ∷ w) f r

-- a fraction and an exponent
pub data NoTail : List ℕ → Fault → List ℕ → Type 0 where
  tail_in_frac : {w r : List ℕ} {f : Fault} → NoSome w f r → NoTail (0x2e ∷ w) f r
  tail_in_exp : {a fs b r : List ℕ} {f : Fault} → FracTo a fs b → NoExp b f r → NoTail a f r

-- a number without its sign
pub data NoMagnitude : List ℕ → Fault → List ℕ → Type 0 where
  mag_bad : {w : List ℕ} → Not Digit w → NoMagnitude w broke w
  mag_in_tail : {w is a r : List ℕ} {f : Fault} → IntTo w is a → NoTail a f r → NoMagnitude w f r

-- a value that holds no other
pub data NoScalar : List ℕ → Fault → List ℕ → Type 0 where
  sc_bad : {w : List ℕ} → Not Starts w → NoScalar w broke w
  sc_in_null : {w r : List ℕ} {f : Fault} → NoLit (0x75 ∷ 0x6c ∷ 0x6c ∷ []) w f r → NoScalar (0x6e ∷ w) f r
  sc_in_true : {w r : List ℕ} {f : Fault} → NoLit (0x72 ∷ 0x75 ∷ 0x65 ∷ []) w f r → NoScalar (0x74 ∷ w) f r
  sc_in_false : {w r : List ℕ} {f : Fault} → NoLit (0x61 ∷ 0x6c ∷ 0x73 ∷ 0x65 ∷ []) w f r → NoScalar (0x66 ∷ w) f r
  sc_in_number : {d : ℕ} {w r : List ℕ} {f : Fault} → Digit d → NoMagnitude (d ∷ w) f r → NoScalar (d ∷ w) f r
  sc_in_minus : {w r : List ℕ} {f : Fault} → NoMagnitude w f r → NoScalar (0x2d ∷ w) f r
  sc_in_string : {w r : List ℕ} {f : Fault} → NoChars w f r → NoScalar (0x22 ∷ w) f r

-- the name of a member and its colon
pub data NoName : List ℕ → Fault → List ℕ → Type 0 where
  name_bad : {w : List ℕ} → Not (Is 0x22) w → NoName w broke w
  name_in : {w r : List ℕ} {f : Fault} → NoChars w f r → NoName (0x22 ∷ w) f r
  name_after : {w k a r : List ℕ} → Chars w k a → Ws a r → Not IsWs r → Not (Is 0x3a) r → NoName (0x22 ∷ w) broke r

mutual
  -- with n levels left
  pub data NoValue : ℕ → List ℕ → Fault → List ℕ → Type 0 where
    val_in_scalar : {n : ℕ} {w r : List ℕ} {f : Fault} → Not (Is 0x5b) w → Not (Is 0x7b) w → NoScalar w f r →
        NoValue n w f r
    val_deep_array : {w : List ℕ} → NoValue zero (0x5b ∷ w) deep (0x5b ∷ w)
    val_deep_object : {w : List ℕ} → NoValue zero (0x7b ∷ w) deep (0x7b ∷ w)
    val_in_array : {n : ℕ} {w v r : List ℕ} {f : Fault} → Ws w v → Not IsWs v → Not (Is 0x5d) v → NoElements n v f r →
        NoValue (suc n) (0x5b ∷ w) f r
    val_in_object : {n : ℕ} {w v r : List ℕ} {f : Fault} → Ws w v → Not IsWs v → Not (Is 0x7d) v → NoMembers n v f r →
        NoValue (suc n) (0x7b ∷ w) f r

  -- the elements of an array, with n levels left
  pub data NoElements : ℕ → List ℕ → Fault → List ℕ → Type 0 where
    elem_in : {n : ℕ} {w r : List ℕ} {f : Fault} → NoValue n w f r → NoElements n w f r
    elem_after : {n : ℕ} {w a r : List ℕ} {j : Json} → Value w j a → Stop j a → depth j ≤ n → Ws a r →
        Not (Follows 0x5d) r → NoElements n w broke r
    elem_on : {n : ℕ} {w a b c r : List ℕ} {j : Json} {f : Fault} → Value w j a → Stop j a → depth j ≤ n →
        Ws a (0x2c ∷ b) → Ws b c → Not IsWs c → NoElements n c f r → NoElements n w f r

  -- a member, with n levels left
  pub data NoMember : ℕ → List ℕ → Fault → List ℕ → Type 0 where
    member_in_name : {n : ℕ} {w r : List ℕ} {f : Fault} → NoName w f r → NoMember n w f r
    member_in_value : {n : ℕ} {w k v r : List ℕ} {f : Fault} → Name w k v → Not IsWs v → NoValue n v f r →
        NoMember n w f r

  -- the members of an object, with n levels left
  pub data NoMembers : ℕ → List ℕ → Fault → List ℕ → Type 0 where
    mem_in : {n : ℕ} {w r : List ℕ} {f : Fault} → NoMember n w f r → NoMembers n w f r
    mem_after : {n : ℕ} {w k a r : List ℕ} {j : Json} → Member w k j a → Stop j a → depth j ≤ n → Ws a r →
        Not (Follows 0x7d) r → NoMembers n w broke r
    mem_on : {n : ℕ} {w k a b c r : List ℕ} {j : Json} {f : Fault} → Member w k j a → Stop j a → depth j ≤ n →
        Ws a (0x2c ∷ b) → Ws b c → Not IsWs c → NoMembers n c f r → NoMembers n w f r

-- a text, with n levels
pub data NoText : ℕ → List ℕ → Fault → List ℕ → Type 0 where
  text_in : {n : ℕ} {w v r : List ℕ} {f : Fault} → Ws w v → Not IsWs v → NoValue n v f r → NoText n w f r
  text_after : {n : ℕ} {w v a r : List ℕ} {j : Json} → Ws w v → Value v j a → Stop j a → depth j ≤ n → Ws a r →
      Not IsWs r → (r ≡ [] → ⊥) → NoText n w broke r
