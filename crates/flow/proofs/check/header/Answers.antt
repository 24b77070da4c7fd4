-- A file that is fit has its whole header, and its end lies within it. Assumes nothing.
use native.Mathlib.Omega.{arith}
use Rattle.flow.proofs.FileVerdict.{header-first, start-within, before-end}
use Rattle.flow.specs.declared.Part.TheVariants.{End}
use Rattle.flow.proofs.check.header.Goals as goal

pub u16_at-requires : goal.u16_at-requires
u16_at-requires c = omega (arith, header-first c.args.file.now End (before-end c.args.file.now c.requires.checked))

pub u8_at-requires : goal.u8_at-requires
u8_at-requires c = omega (arith, header-first c.args.file.now End (before-end c.args.file.now c.requires.checked))

pub u8_at-requires-2 : goal.u8_at-requires-2
u8_at-requires-2 c = omega (arith, header-first c.args.file.now End (before-end c.args.file.now c.requires.checked))

pub u16_at-requires-2 : goal.u16_at-requires-2
u16_at-requires-2 c = omega (arith, header-first c.args.file.now End (before-end c.args.file.now c.requires.checked))

pub handler-requires : goal.handler-requires
handler-requires c =
    let within = start-within c.args.file.now End (before-end c.args.file.now c.requires.checked) in
    (c.requires.key, c.requires.ends, omega (arith, c.requires.ends, within))
