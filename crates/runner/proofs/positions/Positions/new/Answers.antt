use Rattle.std.proofs.Common.{get_or, replicate, ap, ◌∙◌}
use mathlib.Core.Path.{fun_ext}
use Rattle.runner.specs.declared.positions.Position.{Position}
use Rattle.runner.specs.Scripts.{beginning}
use Rattle.runner.proofs.Moves.{all_same, at_beginning}
use Rattle.runner.proofs.positions.Positions.new.Goals as goal

pub returns : goal.returns
returns c = fun_ext (λ t. ap (λ (p : Position). get_or (replicate 256 p) t beginning) (at_beginning c.default.result c.default.ensures) ∙ all_same 256 t beginning)
