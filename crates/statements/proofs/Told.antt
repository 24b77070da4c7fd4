-- The names by which a continuation and the statement that a line enters are read off an answer: one pair of laws for both.
pub use Rattle.statements.proofs.StatementIn.{statement_in-some as continues-to, statement_in-none as continues_nowhere, statement_in-some as enters-at, statement_in-none as enters-nothing}
