-- The records that the definitions answer. Assumes nothing: these are definitions.
use Rattle.std.specs.Prelude.{ℕ, Bool}

-- the smallest rule that the file breaks and its item; or number 0, and where the data of the two chunks lie in the file
pub record Container : Type 0 where
  pub number : ℕ
  pub item : ℕ
  pub json_start : ℕ
  pub json_length : ℕ
  pub has_bin : Bool
  pub bin_start : ℕ
  pub bin_length : ℕ

-- one pass over the chunks: where they end, how many they are, and how many stand right before the first that breaks rule 6 or rule 7
pub record Found : Type 0 where
  pub end : ℕ
  pub count : ℕ
  pub json : ℕ
  pub bin : ℕ
