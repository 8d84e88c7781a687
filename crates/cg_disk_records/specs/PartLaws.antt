-- What stands in the parts of a checkpoint of a state that is within limits, and which checkpoint was found.
use Rattle.std.proofs.Common.{◌≡◌, ℕ, true, cond, List, ◌∷◌, [], ◌++◌, ap, ◌∙◌, arith}
use Rattle.std.specs.Prelude.{Some, None}
use Rattle.cg_members.specs.declared.server.Server.{Server}
use Rattle.cg_members.specs.Listed.{server_ids}
use Rattle.cg_records.specs.Limits.{IsNumber}
use Rattle.cg_records.specs.Reading.{last_of}
use Rattle.cg_records.specs.RecordLaws.{map-push, last_of-push}
use Rattle.cg_disk_records.specs.Stored.{Stored}
use Rattle.cg_disk_records.specs.Checkpoint.{parts_of}
use Rattle.cg_disk_records.specs.Limits.{IsStored, AreParts}
use Rattle.cg_disk_records.specs.Parts.{Saved}

pub parts-within : (generation : ℕ) (s : Stored) → IsNumber generation → IsStored s → AreParts (parts_of generation s)
parts-within generation s small is = record {
  generation = small;
  stable = is.stable;
  reached = record { count = is.queue.count; white = (let count = is.queue.count in omega arith); cut = is.queue.green_cut; members = is.members };
  db = record { short = is.short; entries = is.entries; ascends = is.ascends };
  kept = record { greens = is.queue.greens; reds = is.queue.reds; own = is.own };
}

pub same_saved : (x y : Saved) → cond true (Some x) None ≡ Some y → x ≡ y
same_saved x y e = cc

pub server-last : (taken : List Server) (s : Server) → last_of (server_ids (taken ++ s ∷ [])) ≡ s.id
server-last taken s = ap last_of (map-push (λ (x : Server). x.id) taken s) ∙ last_of-push (server_ids taken) s.id
