-- A word joined with bits and a number inserted: that word, the other words, what the rows then have, and one member more.
-- By the bits of a union and of a power of two. Assumes nothing.
use mathlib.Core.Path.{◌≡◌, refl, ap, ◌∙◌}
use mathlib.Core.List.{List}
use mathlib.Core.Logic.{◌≢◌}
use Prim.Native.Nat.{ℕ, ◌+◌, ◌*◌, ◌/◌, ◌%◌, ◌^◌, ◌≤◌, ◌<◌, max}
use native.Mathlib.Decide.{ℕ_discrete}
use native.Mathlib.Omega.{arith}
use lib.Bits.{bit_or, or_lt}
use lib.ListN.{length, get_or, set, length-set}
use lib.Pow.{pow-lt}
use lib.Seq.{get_or-set_same, get_or-set_other, set-get_or}
use Rattle.words.specs.Clauses.Row.{bit, has, Words, members}
use Rattle.words.specs.Clauses.Change.{joined, inserted}
use Rattle.words.proofs.Bit.{bit-or, bit-pow-same, bit-pow-other, or-member}
use Rattle.words.proofs.Tally.{tally-suc}
use Rattle.words.proofs.Row.{has-lt, has-cong, words-set}

pub length-joined : (ws : List ℕ) (at bits : ℕ) → length (joined ws at bits) ≡ length ws
unfolding joined
length-joined ws at bits = length-set ws at (bit_or (get_or ws at 0) bits)

pub joined_word : (ws : List ℕ) (at bits : ℕ) → at < length ws → get_or (joined ws at bits) at 0 ≡ bit_or (get_or ws at 0) bits
unfolding joined
joined_word ws at bits l = get_or-set_same ws at (bit_or (get_or ws at 0) bits) 0 l

pub joined-other : (ws : List ℕ) (at bits x : ℕ) → x ≢ at → get_or (joined ws at bits) x 0 ≡ get_or ws x 0
unfolding joined
joined-other ws at bits x d = get_or-set_other ws at x (bit_or (get_or ws at 0) bits) 0 d

pub words-joined : (ws : List ℕ) (at bits : ℕ) → Words ws → bits < 2 ^ 64 → Words (joined ws at bits)
unfolding joined
words-joined ws at bits w h = words-set ws at (bit_or (get_or ws at 0) bits) w (or_lt 64 (get_or ws at 0) bits (w at) h)

pub length_inserted : (ws : List ℕ) (base i : ℕ) → length (inserted ws base i) ≡ length ws
unfolding inserted
length_inserted ws base i = length-joined ws (base + i / 64) (2 ^ (i % 64))

pub words-inserted : (ws : List ℕ) (base i : ℕ) → Words ws → Words (inserted ws base i)
unfolding inserted
words-inserted ws base i w = words-joined ws (base + i / 64) (2 ^ (i % 64)) w (pow-lt {j = 64} (omega arith))

-- a word that does not hold i stays
pub inserted-other : (ws : List ℕ) (base i x : ℕ) → x ≢ base + i / 64 → get_or (inserted ws base i) x 0 ≡ get_or ws x 0
unfolding inserted
inserted-other ws base i x d = joined-other ws (base + i / 64) (2 ^ (i % 64)) x d

inserted-has : (ws : List ℕ) (base i j : ℕ) → base + i / 64 < length ws → j / 64 ≡ i / 64
    → has (inserted ws base i) base j ≡ max (has ws base j) (bit (2 ^ (i % 64)) (j % 64))
unfolding has inserted
inserted-has ws base i j l e =
    rw e
    (ap (λ (w : ℕ). bit w (j % 64)) (joined_word ws (base + i / 64) (2 ^ (i % 64)) l)
    ∙ bit-or (get_or ws (base + i / 64) 0) (2 ^ (i % 64)) (j % 64))

pub insert_same : (ws : List ℕ) (base i : ℕ) → base + i / 64 < length ws → has (inserted ws base i) base i ≡ 1
insert_same ws base i l = inserted-has ws base i i l refl ∙ omega (arith, bit-pow-same (i % 64), has-lt ws base i)

pub insert_other : (ws : List ℕ) (base i j : ℕ) → base + i / 64 < length ws → j ≢ i → has (inserted ws base i) base j ≡ has ws base j
insert_other ws base i j l d = at (ℕ_discrete (j / 64) (i / 64))
  where
    at : Dec (j / 64 ≡ i / 64) → has (inserted ws base i) base j ≡ has ws base j
    at (yes e) = inserted-has ws base i j l e ∙ omega (arith, bit-pow-other (i % 64) (j % 64) (omega (arith, d)))
    at (no n) = has-cong (inserted ws base i) ws base j (inserted-other ws base i (base + j / 64) (omega (arith, n)))

-- a row that does not hold i's word has what it had
pub insert_else : (ws : List ℕ) (base i base' j : ℕ) → base' + j / 64 ≢ base + i / 64 → has (inserted ws base i) base' j ≡ has ws base' j
insert_else ws base i base' j d = has-cong (inserted ws base i) ws base' j (inserted-other ws base i (base' + j / 64) d)

-- a member inserted again changes nothing
pub insert_again : (ws : List ℕ) (base i : ℕ) → has ws base i ≡ 1 → inserted ws base i ≡ ws
unfolding has inserted joined
insert_again ws base i e = ap (set ws (base + i / 64)) (or-member (get_or ws (base + i / 64) 0) (i % 64) e) ∙ set-get_or ws (base + i / 64) 0

-- a new member is one more
pub insert_members : (ws : List ℕ) (base i width : ℕ) → base + width ≤ length ws → i < 64 * width → has ws base i ≡ 0
    → members (inserted ws base i) base width ≡ members ws base width + 1
unfolding members
insert_members ws base i width h l e =
    let fits : base + i / 64 < length ws = omega arith in
    tally-suc (has ws base) (has (inserted ws base i) base) (64 * width) i l
    (insert_same ws base i fits ∙ omega arith) (λ j d. insert_other ws base i j fits d)
