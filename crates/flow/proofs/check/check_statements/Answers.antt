-- The first unfit field leaves both loops, and its refusal is that of all records. Assumes nothing.
use native.Mathlib.Omega.{arith}
use native.Mathlib.Numerals.{add-one}
use Prim.Native.Nat.{ℕ, ◌+◌, ◌*◌, ◌≤◌, ◌<◌}
use mathlib.Core.List.{List}
use mathlib.Core.Path.{◌≡◌, refl, sym, ◌∙◌, ap, subst}
use lib.ListN.{length}
use Rattle.std.specs.Prelude.{Option, Ok, None}
use Rattle.flow.specs.declared.Refusal.{Refusal}
use Rattle.flow.specs.declared.Refusal.TheVariants.{Record, Target}
use Rattle.flow.specs.Format.{verdict, fit, unfit, each, start_checks, successor_checks, rest_checks, record_checks, statement_checks, record_place, record_end, successors_place, successor_count, successor_at, references_place, lines_place, u8_at, u16_at, statements_of}
use Rattle.flow.specs.Clauses.Answers.{Reached, answer_of}
use Rattle.flow.proofs.Records.{end_fits}
use Rattle.flow.proofs.Tests.{tests}
use Rattle.flow.proofs.Verdicts.{StopsAt, refusal_at, unfit-at, fit_none, fit-more}
use Rattle.flow.proofs.Answers.{verdict-passed, verdict-refused, refused_by, passed_by, one_more, handed_on}
use Rattle.flow.proofs.RecordVerdict.{successors, start-within, successors-within, in_start, in_successors, after-successors}
use Rattle.flow.proofs.check.check_statements.Invariants.{records_of, Records}
use Rattle.flow.proofs.check.check_statements.Goals as goal
use Rattle.flow.proofs.check.check_statements.Goals.{else-records-test, then-records-test+in_ok-successors+then-loop-k-test+then-file-q, then-records-test+in_ok-successors+then-loop-k-test+else-file-q+then-u16_at-n}

-- record i of n, which stands at p, is unfit, and so are the records
refuse : {s : List ℕ} {n p i : ℕ} {o : Option Refusal} → Records s p i o → i < n → n ≡ statements_of s
    → {r : Refusal} → verdict (record_checks s p) ≡ unfit r → verdict (statement_checks s) ≡ unfit r
unfolding statement_checks
refuse {s} b below n-is {r} h = unfit-at _ _ (records_of s) (omega (arith, n-is)) b.fits (subst (λ x. verdict (record_checks s x) ≡ unfit r) b.place h)

-- the start of the record at p is fit: its successors begin at q, and there are so many
record Begun (s : List ℕ) (p q count : ℕ) : Type 0 where
  start_fits : verdict (start_checks s p) ≡ fit
  place : q ≡ successors_place p
  start : p + 6 ≤ length s
  is : count ≡ successor_count s p

begun : {s : List ℕ} {p q count : ℕ} → Ok q ≡ answer_of (verdict (start_checks s p)) (successors_place p) → count ≡ u8_at s (p + 5) → Begun s p q count
begun {s} {p} a e =
    let t = verdict-passed _ _ _ a in
    record { start_fits = t.is_fit; place = t.place; start = start-within s p t.is_fit; is = e }

module _ {s : List ℕ} {p q count : ℕ} (b : Begun s p q count) where
  -- successor k is unfit, by its check j
  refuse-successor : {k : ℕ} (j : ℕ) → k < count → verdict (each k (successor_checks s p)) ≡ fit → StopsAt j (successor_checks s p k)
      → verdict (record_checks s p) ≡ unfit (refusal_at j (successor_checks s p k))
  refuse-successor {k} j less before u = in_successors s p k j b.start_fits (omega (arith, b.is)) before u

  short : {k : ℕ} → k < count → verdict (each k (successor_checks s p)) ≡ fit → length s < q + 2 * k + 2 → verdict (record_checks s p) ≡ unfit (Record p)
  unfolding successor_checks
  short {k} less before h = refuse-successor {k = k} 0 less before (omega (arith, tests, b.place))

  -- the number that was read is successor k
  element : (k : ℕ) {x : ℕ} → x ≡ u16_at s (q + 2 * k) → x ≡ successor_at s p k
  element k e = e ∙ ap (λ (x : ℕ). u16_at s (x + 2 * k)) b.place

  stray : {k x : ℕ} → k < count → verdict (each k (successor_checks s p)) ≡ fit → q + 2 * k + 2 ≤ length s → x ≡ u16_at s (q + 2 * k) → statements_of s ≤ x
      → verdict (record_checks s p) ≡ unfit (Target p)
  unfolding successor_checks
  stray {k} less before h e high = refuse-successor {k = k} 1 less before (omega (arith, tests, b.place, element k e))

  one_more-successor : (k : ℕ) {x : ℕ} → verdict (each k (successor_checks s p)) ≡ fit → q + 2 * k + 2 ≤ length s → x ≡ u16_at s (q + 2 * k) → x < statements_of s
      → verdict (each (k + 1) (successor_checks s p)) ≡ fit
  unfolding successor_checks
  one_more-successor k before h e low = one_more k (successor_checks s p) before (omega (arith, tests, b.place, element k e))

  -- after all successors
  module _ {k : ℕ} (all : k ≡ count) (before : verdict (each k (successor_checks s p)) ≡ fit) where
    succeeded : verdict (successors s p) ≡ fit
    succeeded = subst (λ n. verdict (each n (successor_checks s p)) ≡ fit) (all ∙ b.is) before

    left-to-rest : verdict (record_checks s p) ≡ verdict (rest_checks s p)
    left-to-rest = after-successors s p b.start_fits succeeded

    reached : 8 ≤ length s → Reached s p (q + 2 * count) (references_place s p)
    reached h = record {
      header = h;
      start = b.start;
      within = omega (arith, b.place, b.is, successors-within s p b.start succeeded);
      there = omega (arith, b.place, b.is);
    }

    -- and after the rest
    next : {i e : ℕ} {o : Option Refusal} → Records s p i o → Ok e ≡ answer_of (verdict (rest_checks s p)) (record_end s p) → {o' : Option Refusal} → o' ≡ None → Records s e (i + 1) o'
    unfolding record_place
    next {i} inv a open' =
        let t = verdict-passed _ _ _ a in
        let whole = left-to-rest ∙ t.is_fit in
        record {
          place = rw add-one (t.place ∙ ap (record_end s) inv.place);
          within = rw t.place (end_fits {s = s} {p = p} (record { checked = whole }));
          fits = fit-more _ (records_of s) inv.fits (subst (λ x. verdict (record_checks s x) ≡ fit) inv.place whole);
          unrefused = open';
        }

pub records-init : goal.records-init
unfolding record_place
records-init c = record { place = refl; within = c.requires; fits = fit_none _; unrefused = refl }

pub returns-in_err-successors : goal.returns-in_err-successors
returns-in_err-successors c =
    let s = c.args.file.now in
    handed_on c.from_residual.ensures.1
    (refused_by (statement_checks s) _
    (refuse c.records.invariant c.records-test.true c.u16_at-n.ensures (in_start s c.records.p (verdict-refused _ _ c.in_err-successors.ensures))))

pub u8_at-count-requires : goal.u8_at-count-requires
u8_at-count-requires c =
    let s = c.args.file.now in
    omega (arith, start-within s c.records.p (verdict-passed _ _ _ (sym c.in_ok-successors.was ∙ c.check_start.ensures)).is_fit)

pub loop-k-init : goal.loop-k-init
loop-k-init c = (fit_none _, c.records.invariant.unrefused)

pub loop-k-preserved : goal.loop-k-preserved
loop-k-preserved c =
    let b = begun (sym c.in_ok-successors.was ∙ c.check_start.ensures) c.u8_at-count.ensures in
    (one_more-successor b c.loop-k.k c.loop-k.invariant.0 c.if-file-q.false c.u16_at.ensures (omega (arith, c.u16_at-n.ensures)), c.loop-k.invariant.1)

pub check_rest-requires : goal.check_rest-requires
check_rest-requires c =
    let b = begun (sym c.in_ok-successors.was ∙ c.check_start.ensures) c.u8_at-count.ensures in
    let all : c.loop-k.k ≡ c.u8_at-count.result = omega arith in
    reached b all c.loop-k.invariant.0 c.requires

pub returns-in_err-p : goal.returns-in_err-p
returns-in_err-p c =
    let s = c.args.file.now in
    let b = begun (sym c.in_ok-successors.was ∙ c.check_start.ensures) c.u8_at-count.ensures in
    let all : c.loop-k.k ≡ c.u8_at-count.result = omega arith in
    handed_on c.from_residual-in_err-p.ensures.1
    (refused_by (statement_checks s) _
    (refuse c.records.invariant c.records-test.true c.u16_at-n.ensures (left-to-rest b all c.loop-k.invariant.0 ∙ verdict-refused _ _ c.in_err-p.ensures)))

pub records-preserved : goal.records-preserved
records-preserved c =
    let b = begun (sym c.in_ok-successors.was ∙ c.check_start.ensures) c.u8_at-count.ensures in
    let all : c.loop-k.k ≡ c.u8_at-count.result = omega arith in
    next b all c.loop-k.invariant.0 c.records.invariant (sym c.in_ok-p.was ∙ c.check_rest.ensures) c.loop-k.invariant.1

pub returns-in-Some : goal.returns-in-Some
returns-in-Some c =
    let s = c.args.file.now in
    let n = c.u16_at-n.ensures in
    let inv = c.records.invariant in
    elim c.records-test.branch [
      | else-records-test w ↦ absurd (let e = inv.unrefused in let is = c.in-Some.is in let z : ◌≡◌ {A = ℕ} 0 1 = cc in omega arith)
      | then-records-test+in_ok-successors+then-loop-k-test+then-file-q w ↦
          let b = begun (sym w.in_ok-successors.was ∙ w.check_start.ensures) w.u8_at-count.ensures in
          let e : c.in-Some.r ≡ Record c.records.p = cc in
          rw e (refused_by (statement_checks s) _ (refuse inv w.records-test.true n (short b w.loop-k-test.true w.loop-k.invariant.0 w.if-file-q.true)))
      | then-records-test+in_ok-successors+then-loop-k-test+else-file-q+then-u16_at-n w ↦
          let b = begun (sym w.in_ok-successors.was ∙ w.check_start.ensures) w.u8_at-count.ensures in
          let e : c.in-Some.r ≡ Target c.records.p = cc in
          rw e (refused_by (statement_checks s) _
          (refuse inv w.records-test.true n (stray b w.loop-k-test.true w.loop-k.invariant.0 w.if-file-q.false w.u16_at.ensures (omega (arith, n)))))
    ]

pub returns-in-None : goal.returns-in-None
unfolding statement_checks
returns-in-None c =
    let s = c.args.file.now in
    let inv = c.records.invariant in
    let is = c.in-None.is in
    elim c.records-test.branch [
      | else-records-test w ↦
          let all : c.records.i ≡ statements_of s = omega (arith, c.u16_at-n.ensures) in
          ap Ok (inv.place ∙ ap (record_place s) all)
          ∙ passed_by (statement_checks s) (lines_place s) (subst (λ n. verdict (each n (records_of s)) ≡ fit) all inv.fits)
      | then-records-test+in_ok-successors+then-loop-k-test+then-file-q w ↦ absurd (let z : ◌≡◌ {A = ℕ} 0 1 = cc in omega arith)
      | then-records-test+in_ok-successors+then-loop-k-test+else-file-q+then-u16_at-n w ↦ absurd (let z : ◌≡◌ {A = ℕ} 0 1 = cc in omega arith)
    ]
