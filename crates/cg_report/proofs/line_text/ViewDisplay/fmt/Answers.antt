use Rattle.std.proofs.Common.{◌≡◌, ℕ, List, ◌++◌, codes, decimal, append_assoc, rules}
use Rattle.std.specs.Prelude.{IsOk}
use Rattle.std.proofs.Output.{has_written_append, has_written_of_eq}
use Rattle.cg_base.specs.Text.{set_text, id_list_text}
use Rattle.cg_report.specs.LineText.{prim_text, vulnerable_text, yellow_text}
use Rattle.cg_report.proofs.line_text.ViewDisplay.fmt.Goals as goal

-- ten pieces, each behind its letter, in two writes and in groups
grouped : (kg g kw w kp p ka a kv v ky y kr r ko o kx x kb b : List ℕ)
    → (kg ++ (g ++ (kw ++ (w ++ (kp ++ (p ++ (ka ++ (a ++ (kv ++ v))))))))) ++ (ky ++ (y ++ (kr ++ (r ++ (ko ++ (o ++ (kx ++ (x ++ (kb ++ b)))))))))
    ≡ kg ++ g ++ kw ++ w ++ (kp ++ p ++ ka ++ a ++ kv ++ v) ++ (ky ++ y ++ kr ++ r ++ ko ++ o) ++ kx ++ x ++ kb ++ b
grouped kg g kw w kp p ka a kv v ky y kr r ko o kx x kb b = simp append_assoc

pub returns-clause-writes : goal.returns-clause-writes
returns-clause-writes g c plain ok =
    let v = c.args.self.now in
    let first : IsOk c.write.result = search rules in
    let front = c.write.ensures.writes plain first in
    has_written_of_eq _ _ _ _ _
    (grouped (codes "g") (decimal v.green_count) (codes " w") (decimal v.white_count) (codes " ") (prim_text v.prim) (codes " a") (decimal v.attempt_index)
    (codes " ") (vulnerable_text v.vulnerable) (codes " ") (yellow_text v.yellow) (codes " r") (id_list_text v.reds) (codes " o") (id_list_text v.own)
    (codes " x") (set_text v.left) (codes " b") (decimal v.buffered))
    (has_written_append _ _ _ _ _ _ front (c.write-2.ensures.writes front.plain ok))
