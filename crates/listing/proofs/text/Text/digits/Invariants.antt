use Rattle.std.proofs.Common.{◌≡◌, ◌++◌}
use Rattle.io.specs.Digits.{hex_digit_ascii}
use Rattle.flow.specs.Format.{tabulate}
use Rattle.listing.specs.Clauses.Room.{word_in}
use Rattle.listing.proofs.text.Text.digits.Given as goal

abbrev pub invariant-loop-mask : goal.invariant-loop-mask
invariant-loop-mask l = l.self.buffer.items ≡ l.fn.self.buffer.items ++ tabulate l.mask-index (λ a. hex_digit_ascii (word_in l.masks a))
