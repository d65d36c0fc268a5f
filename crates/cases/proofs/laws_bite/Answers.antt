use Rattle.cases.proofs.Sampled.{samples, notions}
use Rattle.cases.proofs.Broken.{refuted}
use Rattle.cases.proofs.laws_bite.Goals as goal

pub returns : goal.returns
returns c = record { samples = samples; notions = notions; refuted = refuted }
