-- With no statements no name is certain, nor with a handler, which the header tells. Assumes nothing.
use mathlib.Core.Path.{sym, ap, ◌∙◌}
use native.Mathlib.Nat.{pos_of_ne-zero}
use Rattle.flow.specs.declared.Header.{Header}
use Rattle.dataflow.proofs.JudgingWork.{no_handler, handler-certain, none-certain}
use Rattle.dataflow.proofs.names.find_certain.Goals as goal

pub returns-then-h-eq0 : goal.returns-then-h-eq0
returns-then-h-eq0 c = none-certain c.args.file.now c.args.work.now (ap (λ (h : Header). h.statements) (sym c.requires.header) ∙ c.if-h-eq0.true)

pub walk_names-requires : goal.walk_names-requires
walk_names-requires c =
    let p = c.requires in
    (record { fit = p.fit; header = p.header; some = pos_of_ne-zero c.if-h-eq0.false; work_room = p.work_room }, no_handler c.args.file.now p.header c.in-None.is)

pub returns-in-Some : goal.returns-in-Some
returns-in-Some c = handler-certain c.args.file.now c.requires.header c.in-Some.field-0 c.in-Some.is
