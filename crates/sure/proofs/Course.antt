-- The course of the phases: the bodies are noted, then the statements; the worklist runs, bodies without a RETURN are opened, it runs again, and what bodies do not miss is noted.
-- Each phase writes its own words, so that what an earlier one noted is still there. Assumes nothing.
use Prim.Native.Nat.{ℕ, ◌+◌, ◌*◌, ◌<◌, ◌≤◌}
use mathlib.Core.List.{List}
use mathlib.Core.Path.{◌≡◌, refl, ◌∙◌}
use native.Mathlib.Decide.{ℕ_discrete}
use native.Mathlib.Nat.{le_refl}
use native.Mathlib.Omega.{arith}
use lib.ListN.{length, get_or}
use Rattle.words.specs.Clauses.Row.{Words}
use Rattle.flow.specs.Flow.{Flow}
use Rattle.flow.specs.Format.{flow_of}
use Rattle.flow.specs.Limits.{max_statements}
use Rattle.theory.specs.Sure.{gosub_body, returning}
use Rattle.statements.specs.Clauses.Layout.{sure_at, calls_at, matrix_at, row_words, rows_end, lists_at, queue_at}
use Rattle.statements.specs.Clauses.Ready.{Ready}
use Rattle.statements.proofs.Keeps.{ready-keeps, ready-most, ready-room}
use Rattle.statements.proofs.WorkArea.{row_from, row_below, one_word, queue-place}
use Rattle.sure.specs.Clauses.Layout.{words_end}
use Rattle.sure.specs.Clauses.Noting.{body_word, Asks, BodiesNoted, Firsts, Followers, StatementsNoted}
use Rattle.sure.specs.Clauses.Missing.{Bodies, Exact, Solved}
use Rattle.sure.specs.Clauses.SureArrays.{unmissed, WordsBecome, Opened, SureWords, SureNoted}
use Rattle.sure.proofs.Bodies.{word_low}
use Rattle.sure.proofs.Kept.{only-ready, only-asks, only-followers}
use Rattle.sure.proofs.Found.{returns_ask_none, within-gosub, within-returning, held_first, asks-returning, followers-returning, held-opened, no_words, returning-low}

-- the words of this phase end where the queue begins, or before, and lie in the area

words-end : (n : ℕ) → 0 < n → n ≤ max_statements → words_end n ≤ queue_at n
words-end n p h = go (ℕ_discrete n 1)
  where
    go : Dec (n ≡ 1) → words_end n ≤ queue_at n
    go (yes e) = let few : n < 8 = omega arith in omega (arith, one_word few, queue-place p h)
    go (no d) = omega (arith, d, row_below h (le_refl n), queue-place p h)

words-none : (n : ℕ) → n ≡ 0 → words_end n ≡ 0
unfolding rows_end row_words
words-none n e = rw e refl

pub words-low : (n : ℕ) → n ≤ max_statements → words_end n ≤ queue_at n
words-low n h = go (ℕ_discrete n 0)
  where
    go : Dec (n ≡ 0) → words_end n ≤ queue_at n
    go (yes e) = omega (arith, words-none n e)
    go (no d) = words-end n (omega (arith, d)) h

pub words-room : {s ws : List ℕ} {n : ℕ} → Ready s ws n → words_end n ≤ length ws
words-room {s} {ws} {n} r = go (ℕ_discrete n 0)
  where
    go : Dec (n ≡ 0) → words_end n ≤ length ws
    go (yes e) = omega (arith, words-none n e)
    go (no d) = let some : 0 < n = omega (arith, d) in omega (arith, words-end n some (ready-most r), ready-room r some)

-- Around each run of the worklist every statement asks the first of its bodies, and is noted wherever its set follows from
pub record Asking (s : List ℕ) (bodies : ℕ → List ℕ) (ws : List ℕ) (n : ℕ) : Type 0 where
  pub ready : Ready s ws n
  pub asks : Asks bodies ws n
  pub low : (c : ℕ) → body_word (bodies c) ≤ n
  pub followers : Followers (flow_of s) bodies ws n

module _ {s ws : List ℕ} {bodies : ℕ → List ℕ} {n : ℕ} (a : Asking s bodies ws n) where
  -- that is enough for a run, and for a change of who asks

  pub asking-words : (words_end n ≤ length ws) × Bodies ws n
  asking-words = (words-room a.ready, λ c l. omega (arith, a.asks c l, a.low c))

  pub asking-run : Ready s ws n × (words_end n ≤ length ws) × Bodies ws n × Firsts ws n
  asking-run = (a.ready, words-room a.ready, asking-words.1, a.followers.words)

  -- which a run keeps
  pub asking-solved : {vs : List ℕ} → Solved (flow_of s) ws vs n → Asking s bodies vs n
  asking-solved x = record { ready = only-ready x.only a.ready; asks = only-asks x.only bodies a.asks; low = a.low; followers = only-followers x.only a.followers }

-- Before the first run

module _ {s ws₀ ws₁ : List ℕ} {n : ℕ} (ready : Ready s ws₀ n) (b : BodiesNoted (flow_of s) ws₀ ws₁ n) where
  pub ready-bodies : Ready s ws₁ n
  ready-bodies = ready-keeps ready b.kept (omega arith)

  -- no body is asked
  pub none-sure : ((c : ℕ) → c < n → body_word (gosub_body (flow_of s) c) ≡ 0) → SureNoted (flow_of s) ws₀ ws₁ n
  none-sure none = record {
    sure = λ c l o. no_words ready c (b.asks c l ∙ none c l) (none c l) o;
    size = b.kept.size;
    below = λ x l. b.kept.below x l;
    between = λ x l m. b.kept.above x (omega arith);
    above = λ x l. b.kept.above x (let low = row_from n n in omega arith);
  }

  pub asking-noted : {ws₂ : List ℕ} → StatementsNoted (flow_of s) ws₁ ws₂ n → Asking s (gosub_body (flow_of s)) ws₂ n
  asking-noted t = record {
    ready = ready-keeps ready-bodies t.kept (omega arith);
    asks = λ c l. t.kept.below (sure_at n + c) (omega arith) ∙ b.asks c l;
    low = word_low ready;
    followers = t.followers;
  }

-- what it finds
pub exact-noted : {s ws₁ ws₂ ws₃ : List ℕ} {n : ℕ} → Asking s (gosub_body (flow_of s)) ws₂ n → StatementsNoted (flow_of s) ws₁ ws₂ n → Solved (flow_of s) ws₂ ws₃ n → Exact (flow_of s) (gosub_body (flow_of s)) ws₃ n
exact-noted {s} {n = n} a t x = x.exact (gosub_body (flow_of s)) (returns_ask_none (flow_of s) n).0 a.asks a.followers (within-gosub a.ready) (held_first a.ready t)

-- Before the second, when the bodies without a RETURN are asked no more

module _ {s ws₃ ws₄ : List ℕ} {n : ℕ} (a : Asking s (gosub_body (flow_of s)) ws₃ n) (words : Words ws₃) (found : Exact (flow_of s) (gosub_body (flow_of s)) ws₃ n) (o : Opened ws₃ ws₄ n) where
  pub asking-opened : Asking s (returning (flow_of s)) ws₄ n
  asking-opened =
      let r = a.ready in
      record {
        ready = record {
          fit = r.fit;
          count = r.count;
          room = omega (arith, r.room, o.become.size);
          offsets = λ i l. o.become.elsewhere _ (λ p q. omega arith) (λ p q. omega (arith, row_from n n)) ∙ r.offsets i l;
        };
        asks = asks-returning r words found a.asks o;
        low = returning-low r;
        followers = followers-returning r words found a.asks o a.followers;
      }

  pub exact-opened : {ws₅ : List ℕ} → Solved (flow_of s) ws₄ ws₅ n → Exact (flow_of s) (returning (flow_of s)) ws₅ n
  exact-opened y = y.exact (returning (flow_of s)) (returns_ask_none (flow_of s) n).1 asking-opened.asks asking-opened.followers (within-returning a.ready) (held-opened a.ready words found a.asks o)

-- All phases together

module _ {f : Flow} {ws₀ ws₁ ws₂ ws₃ ws₄ ws₅ ws₆ : List ℕ} {n : ℕ} (most : n ≤ max_statements) (b : BodiesNoted f ws₀ ws₁ n) (t : StatementsNoted f ws₁ ws₂ n) (x : Solved f ws₂ ws₃ n) (o : Opened ws₃ ws₄ n)
    (y : Solved f ws₄ ws₅ n) (w : WordsBecome (unmissed ws₅ n) ws₅ ws₆ n) where
  low : 7 * n ≤ lists_at n
  low = row_from n n

  end : words_end n ≤ queue_at n
  end = words-low n most

  -- a word below the matrix that is none of the sure arrays', and one behind the words of this phase

  last : (z : ℕ) → (sure_at n ≤ z → z < calls_at n → ⊥) → z < lists_at n → z < matrix_at n → get_or ws₆ z 0 ≡ get_or ws₁ z 0
  last z p l m =
      w.elsewhere z p (λ u v. omega (arith, low)) ∙ y.only.kept.below z l ∙ o.become.elsewhere z p (λ u v. omega (arith, low)) ∙ x.only.kept.below z l ∙ t.kept.below z m

  high : (z : ℕ) → words_end n ≤ z → get_or ws₆ z 0 ≡ get_or ws₁ z 0
  high z l =
      w.elsewhere z (λ u v. omega (arith, low)) (λ u v. omega arith) ∙ y.only.kept.above z l ∙ o.become.elsewhere z (λ u v. omega (arith, low)) (λ u v. omega arith) ∙ x.only.kept.above z l ∙ t.kept.above z l

  pub all_noted : SureWords f ws₆ n → SureNoted f ws₀ ws₆ n
  all_noted sure = record {
    sure = sure;
    size = w.size ∙ y.only.kept.size ∙ o.become.size ∙ x.only.kept.size ∙ t.kept.size ∙ b.kept.size;
    below = λ z l. last z (λ p q. omega arith) (omega (arith, low)) (omega arith) ∙ b.kept.below z l;
    between = λ z l m. last z (λ p q. omega arith) (omega (arith, low)) m ∙ b.kept.above z (omega arith);
    above = λ z l. high z (omega (arith, end)) ∙ b.kept.above z (omega (arith, low, end));
  }
