use Rattle.std.proofs.Common.{◌∙◌}
use Rattle.cg_db.specs.Map.{keys}
use Rattle.cg_db.proofs.KeyLemmas.{all_begin}
use Rattle.cg_db.proofs.db.Db.keys.Goals as goal

pub returns : goal.returns
returns c = c.from_vec.ensures ∙ c.in_ok-found.ensures ∙ all_begin (keys c.args.self.now)
