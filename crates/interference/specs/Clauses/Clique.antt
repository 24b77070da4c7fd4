-- The clique of a set of names is added: what the words are then, every one of them, and which pairs of names they hold.
use Rattle.std.specs.Prelude.{ℕ, ◌^◌, ◌<◌, cond, List, ◌≡◌, eqb, length, get_or}
use Rattle.std.specs.Int.Bits.{bit_or}
use Rattle.words.specs.Clauses.Row.{bit}
use Rattle.words.specs.Clauses.Change.{without}

-- the word of a name: where the set has the name, the others of the set join it
unfoldable pub clique_word : List ℕ → ℕ → ℕ → ℕ
clique_word rows names x = cond (eqb (bit names x) 1) (bit_or (get_or rows x 0) (without names (2 ^ x))) (get_or rows x 0)

pub record CliqueAdded (rows rows' : List ℕ) (names : ℕ) : Type 0 where
  pub size : length rows' ≡ length rows
  pub word : (x : ℕ) → get_or rows' x 0 ≡ clique_word rows names x

-- nothing is written where all names of the set are in the last one; r is the last set now
pub data NewCliqueAdded (rows rows' : List ℕ) (last names r : ℕ) : Type 0 where
  within : rows' ≡ rows → r ≡ last → without names last ≡ 0 → NewCliqueAdded rows rows' last names r
  new : CliqueAdded rows rows' names → r ≡ names → NewCliqueAdded rows rows' last names r

abbrev pub Both : ℕ → ℕ → ℕ → Type 0
Both names x y = (bit names x ≡ 1) × (bit names y ≡ 1)

-- the words of the first k names hold the pairs of different names that P has, and no others
pub record Pairs (rows : List ℕ) (k : ℕ) (P : ℕ → ℕ → Type 0) : Type 0 where
  pub sound : (x y : ℕ) → x < k → bit (get_or rows x 0) y ≡ 1 → (x ≡ y → ⊥) × P x y
  pub complete : (x y : ℕ) → x < k → (x ≡ y → ⊥) → P x y → bit (get_or rows x 0) y ≡ 1
