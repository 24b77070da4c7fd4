-- `solve_flow` meets its contract: each phase starts from what the one before it left.
-- Assumes nothing.
use Rattle.dataflow.proofs.Phases.{solved}
use Rattle.dataflow.proofs.door.solve_flow.Goals as goal

pub returns : goal.returns
returns c =
    let names = c.solve_names.ensures in
    solved c.requires.flow_fit.header c.find_masks-visits.ensures names.0 names.1
