-- The reader's answer and the definition's reading agree, both ways: what `check_file` accepts is the flow that `read_flow` reads, what
-- `read_flow` accepts is not refused, and a refusal of the one is the refusal of the other. By cases on the verdict.
use Prim.Native.Nat.{ℕ}
use native.Mathlib.Omega.{arith}
use mathlib.Core.List.{List}
use mathlib.Core.Logic.{◌↔◌}
use mathlib.Core.Path.{◌≡◌, refl, sym, ap, ◌∙◌}
use Rattle.flow.specs.declared.Refusal.{Refusal}
use Rattle.flow.specs.declared.Header.{Header}
use Rattle.std.specs.Prelude.{Result, Ok, Err}
use Rattle.flow.specs.Flow.{Flow}
use Rattle.flow.specs.Format.{Verdict, fit, unfit, verdict, file_checks, flow_of, accepted, refused, reading_of, read_flow}
use Rattle.flow.specs.Clauses.Answers.{answer_of, header_of}
use Rattle.flow.proofs.Answers.{verdict-passed, verdict-refused}

-- what `check_file` answers
abbrev pub answer : List ℕ → Result Header Refusal
answer s = answer_of (verdict (file_checks s)) (header_of s)

-- what a reading says of the verdict

fit-reading : (v : Verdict) (g f : Flow) → reading_of v g ≡ accepted f → v ≡ fit
fit-reading fit g f e = refl
fit-reading (unfit r) g f e = absurd (let z : ◌≡◌ {A = ℕ} 0 1 = cc in omega arith)

unfit-reading : (v : Verdict) (g : Flow) {r : Refusal} → reading_of v g ≡ refused r → v ≡ unfit r
unfit-reading fit g {r} e = absurd (let z : ◌≡◌ {A = ℕ} 0 1 = cc in omega arith)
unfit-reading (unfit r') g {r} e = cc

-- what the reader accepts is that flow
pub accepts : (s : List ℕ) (h : Header) → answer s ≡ Ok h → (read_flow s ≡ accepted (flow_of s)) × (h ≡ header_of s)
accepts s h e =
    let v = (verdict-passed (verdict (file_checks s)) h (header_of s) (sym e)).is_fit in
    let reads : read_flow s ≡ accepted (flow_of s) = ap (λ x. reading_of x (flow_of s)) v in
    let same : Ok h ≡ Ok (header_of s) = sym e ∙ ap (λ x. answer_of x (header_of s)) v in
    (reads, cc)

-- what the definition accepts is not refused
pub not-refused : (s : List ℕ) (f : Flow) → read_flow s ≡ accepted f → answer s ≡ Ok (header_of s)
not-refused s f e = ap (λ x. answer_of x (header_of s)) (fit-reading (verdict (file_checks s)) (flow_of s) f e)

-- a refusal of the one is that of the other
pub refuses : (s : List ℕ) (r : Refusal) → (answer s ≡ Err r) ↔ (read_flow s ≡ refused r)
refuses s r = (
  λ e. ap (λ x. reading_of x (flow_of s)) (verdict-refused (verdict (file_checks s)) (header_of s) (sym e)),
  λ e. ap (λ x. answer_of x (header_of s)) (unfit-reading (verdict (file_checks s)) (flow_of s) e),
)
