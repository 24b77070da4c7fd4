-- What was passed is fit, the records before i, and the successors before k of the record at p, and nothing was refused.
use Rattle.std.specs.Prelude.{◌≡◌, ℕ, ◌≤◌, List, length, Option, None}
use Rattle.flow.specs.declared.Refusal.{Refusal}
use Rattle.flow.specs.Format.{Check, verdict, fit, each, record_checks, record_place, successor_checks}
use Rattle.flow.proofs.check.check_statements.Given as goal

abbrev pub records_of : List ℕ → ℕ → List Check
records_of s i = record_checks s (record_place s i)

-- the records before i are fit, and p is the place of record i
pub record Records (s : List ℕ) (p i : ℕ) (refusal : Option Refusal) : Type 0 where
  pub place : p ≡ record_place s i
  pub within : p ≤ length s
  pub fits : verdict (each i (records_of s)) ≡ fit
  pub unrefused : refusal ≡ None

abbrev pub invariant-records : goal.invariant-records
invariant-records l = Records l.file l.p l.i l.refusal

abbrev pub invariant-loop-k : goal.invariant-loop-k
invariant-loop-k l = (verdict (each l.k (successor_checks l.file l.p)) ≡ fit) × (l.refusal ≡ None)
