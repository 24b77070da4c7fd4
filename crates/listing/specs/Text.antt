-- What the listing program prints for an input: `L` alone over 16,384 bytes; else the listing by the verdict of the call, whose areas serve 96 statements
-- of 64 arrays. Its function writes that text at the start of a lent buffer.
use Rattle.std.specs.Prelude.{ℕ, ◌*◌, cond, List, ◌≡◌, ltb, length, take, drop}
use Rattle.io.specs.Counts.{IsPrefixLen}
use Rattle.flow.specs.Limits.{max_arrays, work_words}
use Rattle.flow.specs.Format.{flow_of}
use Rattle.theory.specs.Listing.{listing, long_text}
use Rattle.dataflow.specs.Promise.{judged}

abbrev pub max_input : ℕ
max_input = 16384

-- the statements that the program's areas serve
abbrev pub served : ℕ
served = 96

unfoldable pub text : List ℕ → List ℕ
text s = cond (ltb max_input (length s)) long_text (listing (judged s (served * max_arrays) served served (work_words served)) (flow_of s))

-- the first r bytes of the buffer are the text, and the others are as they were
pub record HoldsText (s before after : List ℕ) (r : ℕ) : Type 0 where
  pub counts : IsPrefixLen r after
  pub written : take r after ≡ text s
  pub kept : drop r after ≡ drop r before
