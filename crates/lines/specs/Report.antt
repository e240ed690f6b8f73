-- What the bench program writes, by its bytes (document 01, "Tables, readings, walk").
-- Assumes nothing: these are definitions.
use Rattle.std.specs.Prelude.{ℕ, ◌+◌, ◌≡◌, Bool, cond, List, [], ◌∷◌, ◌++◌, eqb, leb, length, drop}
use Rattle.std.proofs.lemmas.List.Edits.{sets}
use Rattle.lines.specs.Decimal.{decimal_of}

-- the words between the numbers, with their spaces
abbrev pub 'verdict' : List ℕ
'verdict' = 118 ∷ 101 ∷ 114 ∷ 100 ∷ 105 ∷ 99 ∷ 116 ∷ 32 ∷ []

abbrev pub 'item' : List ℕ
'item' = 32 ∷ 105 ∷ 116 ∷ 101 ∷ 109 ∷ 32 ∷ []

abbrev pub 'views' : List ℕ
'views' = 118 ∷ 105 ∷ 101 ∷ 119 ∷ 115 ∷ 32 ∷ []

abbrev pub 'accessors' : List ℕ
'accessors' = 32 ∷ 97 ∷ 99 ∷ 99 ∷ 101 ∷ 115 ∷ 115 ∷ 111 ∷ 114 ∷ 115 ∷ 32 ∷ []

abbrev pub 'nodes' : List ℕ
'nodes' = 32 ∷ 110 ∷ 111 ∷ 100 ∷ 101 ∷ 115 ∷ 32 ∷ []

abbrev pub 'scenes' : List ℕ
'scenes' = 32 ∷ 115 ∷ 99 ∷ 101 ∷ 110 ∷ 101 ∷ 115 ∷ 32 ∷ []

-- the end of a line
abbrev pub newline : List ℕ
newline = 10 ∷ []

-- a word and the number behind it
unfoldable pub field : List ℕ → ℕ → List ℕ
field word n = word ++ decimal_of n

-- `verdict 0 item 0`
unfoldable pub verdict_line : ℕ → ℕ → List ℕ
verdict_line verdict item = field 'verdict' verdict ++ field 'item' item ++ newline

-- `views 0 accessors 0 nodes 0 scenes 0`
unfoldable pub counts_line : ℕ → ℕ → ℕ → ℕ → List ℕ
counts_line views accessors nodes scenes =
    field 'views' views ++ field 'accessors' accessors ++ field 'nodes' nodes ++ field 'scenes' scenes ++ newline

-- what is written for a file. A refusal writes the first line only
unfoldable pub report_of : ℕ → ℕ → ℕ → ℕ → ℕ → ℕ → List ℕ
report_of verdict item views accessors nodes scenes =
    verdict_line verdict item ++ cond (eqb verdict 0) (counts_line views accessors nodes scenes) []

-- `file too long for the bench` and a newline
unfoldable pub too_long : List ℕ
too_long = 102 ∷ 105 ∷ 108 ∷ 101 ∷ 32 ∷ 116 ∷ 111 ∷ 111 ∷ 32 ∷ 108 ∷ 111 ∷ 110 ∷ 103 ∷ 32 ∷ 102 ∷ 111 ∷ 114 ∷ 32 ∷ 116 ∷ 104 ∷ 101 ∷ 32 ∷ 98 ∷ 101 ∷ 110 ∷ 99 ∷ 104 ∷ 10 ∷ []

-- the length of the longest report: an accepted file with five numbers of ten digits
abbrev pub longest : ℕ
longest = 99

-- whether a lent list has room for a text
unfoldable pub fits : List ℕ → List ℕ → Bool
fits text list = leb (length text) (length list)

-- how many bytes are written: all of the text's, or none where there is no room
unfoldable pub count_in : List ℕ → List ℕ → ℕ
count_in text list = cond (fits text list) (length text) 0

-- the lent list at exit: the text at its start and the rest as it was; unchanged where there is no room
unfoldable pub written_in : List ℕ → List ℕ → List ℕ
written_in text list = cond (fits text list) (text ++ drop (length text) list) list

-- one piece of a line: the text is stored in the list from a place on, which gives the list after, and ends where the next may start
pub record Put (list : List ℕ) (at : ℕ) (text : List ℕ) (end : ℕ) (after : List ℕ) : Type 0 where
  pub ends : end ≡ at + length text
  pub stored : after ≡ sets list at text
