-- A row of masks joined to those of the number x: what every number's masks are then, that a number is settled no more where they grew, and that what waits and what was sent by RETURNs is as before.
use Prim.Native.Nat.{ℕ, ◌*◌, ◌/◌, ◌<◌}
use mathlib.Core.Bool.{Bool, cond}
use mathlib.Core.List.{List}
use mathlib.Core.Logic.{◌≢◌}
use mathlib.Core.Path.{◌≡◌, refl, sym, ap, ap₂, subst, ◌∙◌}
use native.Mathlib.Decide.{ℕ_discrete}
use native.Mathlib.Omega.{arith}
use borrow.Author.Tests.{eq-eqb, ne_eqb}
use lib.Bits.{bit_or, or_zero_r}
use lib.Dec.{eqb}
use Rattle.flow.specs.Flow.{Flow}
use Rattle.theory.specs.Lists.{differ}
use Rattle.statements.specs.Clauses.Layout.{queue_at}
use Rattle.statements.specs.Clauses.Ready.{Keeps}
use Rattle.statements.proofs.Keeps.{keeps_widen}
use Rattle.solve.specs.declared.Queue.{Queue}
use Rattle.solve.specs.Clauses.Layout.{mask_row_at, state_at, settled_in, nodes_end}
use Rattle.solve.specs.Clauses.Rows.{mask_at}
use Rattle.solve.specs.Clauses.Waiting.{Waits}
use Rattle.solve.specs.Clauses.Pushed.{masks_at, Grown}
use Rattle.solve.proofs.Room.{row_from, row_fits}
use Rattle.solve.proofs.Masks.{mask-cong, differ_as}
use Rattle.solve.proofs.Growing.{other_word, waits-grown}
use Rattle.dataflow.specs.Clauses.Sent.{SettledSet, Grows, Shared}
use Rattle.dataflow.proofs.Unions.{differ_self}
use Rattle.dataflow.proofs.Sending.{joined-grows}
use Rattle.dataflow.proofs.Sharing.{shared-stays}

module _ (ws us : List ℕ) (n w from x : ℕ) (below : x < 2 * n) (grown : Grown ws us n w from x) where
  other-masks : (t a : ℕ) → t ≢ x → a < 64 * w → masks_at us n w t a ≡ masks_at ws n w t a
  other-masks t a ne m = mask-cong ws us w (mask_row_at n w t) a m (λ y lo hi. other_word n w x grown.keeps t ne y lo (omega arith))

  -- what was joined to the masks of t
  pub grown-masks : (t a : ℕ) → t < 2 * n → a < 64 * w → masks_at us n w t a ≡ bit_or (masks_at ws n w t a) (cond (eqb x t) (mask_at ws w from a) 0)
  grown-masks t a l m = go (ℕ_discrete x t)
    where
      go : Dec (x ≡ t) → masks_at us n w t a ≡ bit_or (masks_at ws n w t a) (cond (eqb x t) (mask_at ws w from a) 0)
      go (yes q) =
          ap (λ (y : ℕ). masks_at us n w y a) (sym q) ∙ grown.masks a m
          ∙ ap₂ (λ (y : ℕ) (b : Bool). bit_or (masks_at ws n w y a) (cond b (mask_at ws w from a) 0)) q (sym (eq-eqb x t q))
      go (no ne) =
          other-masks t a (λ q. ne (sym q)) m ∙ sym (or_zero_r (masks_at ws n w t a))
          ∙ ap (λ (b : Bool). bit_or (masks_at ws n w t a) (cond b (mask_at ws w from a) 0)) (sym (ne_eqb x t ne))

  pub grown-settled : SettledSet n w ws us
  grown-settled t l = go (ℕ_discrete t x)
    where
      go : Dec (t ≡ x) → settled_in us n w t ≡ cond (differ (64 * w) (masks_at us n w t) (masks_at ws n w t)) 0 (settled_in ws n w t)
      go (yes q) = subst (λ (y : ℕ). settled_in us n w y ≡ cond (differ (64 * w) (masks_at us n w y) (masks_at ws n w y)) 0 (settled_in ws n w y)) (sym q) grown.settled
      go (no ne) =
          ap (λ (z : ℕ). z / 2) (other_word n w x grown.keeps t ne (state_at n w t) (omega arith) (omega arith))
          ∙ sym (ap (λ (b : Bool). cond b 0 (settled_in ws n w t))
          (differ_as (64 * w) (masks_at us n w t) (masks_at ws n w t) (masks_at ws n w t) (masks_at ws n w t) (λ a m. other-masks t a ne m) (λ a m. refl) ∙ differ_self (64 * w) (masks_at ws n w t)))

  pub grown_grows : Grows ws us n w
  grown_grows t a l m = joined-grows (masks_at ws n w t a) _ _ (grown-masks t a l m)

  pub grown-keeps : Keeps (queue_at n) (nodes_end n w) ws us
  grown-keeps = let least = row_from n w x in let fits = row_fits n w below in keeps_widen (omega arith) (omega arith) grown.keeps

  pub grown-shared : {f : Flow} → Shared f ws n w → Shared f us n w
  grown-shared = shared-stays n w grown-keeps grown_grows

  pub grown-waits : {queue : Queue} {l : List ℕ} → Waits ws n w queue l → Waits us n w queue l
  grown-waits h = waits-grown n w x grown.keeps grown.waits h
