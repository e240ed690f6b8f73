-- Worked examples: the parser, the count and the scan compute.
-- Assumes nothing.
use mathlib.Core.Path.{◌≡◌, refl}
use mathlib.Core.List.{[], ◌∷◌}
use mathlib.Core.Option.{some}
use Rattle.std.proofs.Common.{Ok, Err}
use Rattle.json_text.specs.declared.error.ScanError.TheVariants.{Broke, Deep}
use Rattle.json_text.specs.Tree.{Json, Values, Fields}
use Rattle.json_text.specs.Depth.{depth_of, to_pass}
use Rattle.json_text.specs.Parse.{text_run, past_ws, tree_of}
use Rattle.json_text.specs.Answer.{scan_of}

-- {"asset":{"version":"2.0"}} and a space
asset :
    tree_of 32
    (123 ∷ 34 ∷ 97 ∷ 115 ∷ 115 ∷ 101 ∷ 116 ∷ 34 ∷ 58 ∷ 123 ∷ 34 ∷ 118 ∷ 101 ∷ 114 ∷ 115 ∷ 105 ∷ 111 ∷ 110 ∷ 34 ∷
    58 ∷ 34 ∷ 50 ∷ 46 ∷ 48 ∷ 34 ∷ 125 ∷ 125 ∷ 32 ∷ [])
    ≡ some (Json.object (Fields.field_then (97 ∷ 115 ∷ 115 ∷ 101 ∷ 116 ∷ []) (Json.object
    (Fields.field_then (118 ∷ 101 ∷ 114 ∷ 115 ∷ 105 ∷ 111 ∷ 110 ∷ [])
    (Json.string (50 ∷ 46 ∷ 48 ∷ [])) Fields.fields_end))
    Fields.fields_end))
unfolding tree_of
asset = refl

-- {"a":[1,-2.5e3, null]}
nested :
    tree_of 32
    (123 ∷ 34 ∷ 97 ∷ 34 ∷ 58 ∷ 91 ∷ 49 ∷ 44 ∷ 45 ∷ 50 ∷ 46 ∷ 53 ∷ 101 ∷ 51 ∷ 44 ∷ 32 ∷ 110 ∷ 117 ∷ 108 ∷ 108 ∷
    93 ∷ 125 ∷ [])
    ≡ some (Json.object (Fields.field_then (97 ∷ []) (Json.array
    (Values.value_then (Json.number (49 ∷ [])) (Values.value_then (Json.number (45 ∷ 50 ∷ 46 ∷ 53 ∷ 101 ∷ 51 ∷ []))
    (Values.value_then Json.null Values.values_end)))) Fields.fields_end))
unfolding tree_of
nested = refl

-- {"a":0}
accepted : scan_of 32 (123 ∷ 34 ∷ 97 ∷ 34 ∷ 58 ∷ 48 ∷ 125 ∷ 32 ∷ []) ≡ Ok 8
unfolding scan_of text_run past_ws
accepted = refl

-- {"a":01}
leading_zero : scan_of 32 (123 ∷ 34 ∷ 97 ∷ 34 ∷ 58 ∷ 48 ∷ 49 ∷ 125 ∷ []) ≡ Err (Broke 6)
unfolding scan_of text_run past_ws
leading_zero = refl

-- {"a":1.}
no_fraction : scan_of 32 (123 ∷ 34 ∷ 97 ∷ 34 ∷ 58 ∷ 49 ∷ 46 ∷ 125 ∷ []) ≡ Err (Broke 7)
unfolding scan_of text_run past_ws
no_fraction = refl

-- {"a":0,}
last_comma : scan_of 32 (123 ∷ 34 ∷ 97 ∷ 34 ∷ 58 ∷ 48 ∷ 44 ∷ 125 ∷ []) ≡ Err (Broke 7)
unfolding scan_of text_run past_ws
last_comma = refl

-- {}{}
two_values : scan_of 32 (123 ∷ 125 ∷ 123 ∷ 125 ∷ []) ≡ Err (Broke 2)
unfolding scan_of text_run past_ws
two_values = refl

--  []
array : scan_of 32 (32 ∷ 91 ∷ 93 ∷ []) ≡ Err (Broke 1)
unfolding scan_of text_run past_ws
array = refl

-- {"a
unfinished : scan_of 32 (123 ∷ 34 ∷ 97 ∷ []) ≡ Err (Broke 3)
unfolding scan_of text_run past_ws
unfinished = refl

-- {"a":[]} with one level
too_deep : scan_of 1 (123 ∷ 34 ∷ 97 ∷ 34 ∷ 58 ∷ 91 ∷ 93 ∷ 125 ∷ []) ≡ Err (Deep 5)
unfolding scan_of text_run past_ws
too_deep = refl

-- ["]",[ with one level
hidden_bracket : depth_of 1 (91 ∷ 34 ∷ 93 ∷ 34 ∷ 44 ∷ 91 ∷ []) ≡ Err (record { place = 5 })
unfolding depth_of to_pass
hidden_bracket = refl
