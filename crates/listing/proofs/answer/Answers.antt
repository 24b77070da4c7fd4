-- What is appended to the empty text is the text of the input, by the answer of the call.
use Rattle.std.proofs.Common.{ℕ, ◌≡◌, arith, length, replicate, ap, ◌∙◌}
use Rattle.std.proofs.lemmas.List.{length-replicate}
use Rattle.listing.proofs.InputText.{refused-text, accepted-room, accepted-work, accepted-length, accepted-text}
use Rattle.listing.proofs.answer.Goals as goal

size : (n : ℕ) → length {A = ℕ} (replicate n 0) ≡ n
size n = length-replicate n 0

pub refusal-requires : goal.refusal-requires
refusal-requires c = omega (arith, ap length c.requires.empty)

pub accepted-requires-clause-held : goal.accepted-requires-clause-held
accepted-requires-clause-held c = accepted-room _ c.states.ensures (size 6144) (size 96) (size 96) (size 6144) c.in-Ok.is

pub accepted-requires-clause-work_room : goal.accepted-requires-clause-work_room
accepted-requires-clause-work_room c = accepted-work c.states.ensures (size 6144) (size 96) (size 96) (size 6144) c.in-Ok.is

pub accepted-requires-clause-room : goal.accepted-requires-clause-room
accepted-requires-clause-room c =
    omega (
      arith,
      ap length c.requires.empty,
      accepted-length c.states.ensures (size 6144) (size 96) (size 96) (size 6144) c.in-Ok.is c.type_inv.input,
    )

pub returns-in-Err : goal.returns-in-Err
returns-in-Err c =
    (rw c.requires.empty at c.refusal.ensures)
    ∙ refused-text c.states.ensures (size 6144) (size 96) (size 96) (size 6144) c.in-Err.is c.requires.short

pub returns-in-Ok : goal.returns-in-Ok
returns-in-Ok c =
    (rw c.requires.empty at c.accepted.ensures)
    ∙ accepted-text c.states.ensures (size 6144) (size 96) (size 96) (size 6144) c.in-Ok.is c.requires.short
