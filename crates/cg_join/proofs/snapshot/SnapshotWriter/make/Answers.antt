use Rattle.std.proofs.Common.{◌≡◌, ◌∷◌, [], ◌++◌, ap, ◌∙◌}
use Rattle.cg_join.specs.declared.piece.PieceContent.TheVariants.{Start}
use Rattle.cg_join.specs.Snapshot.{head_of, parts_of}
use Rattle.cg_join.proofs.PartLists.{all_pushed}
use Rattle.cg_join.proofs.snapshot.SnapshotWriter.make.Goals as goal

pub returns-clause-value : goal.returns-clause-value
returns-clause-value c =
    let h = c.args.core.now in
    let first : c.push.new.self ≡ c.in_ok-parts.parts ++ Start (head_of h) ∷ [] = c.in_ok-push.ensures.ok ∙ ap (λ head. c.in_ok-parts.parts ++ Start head ∷ []) (c.in_ok-head.ensures ∙ c.head_of.ensures.value) in
    let all : c.push-2.new.self ≡ parts_of h =
    all_pushed h c.in_ok-parts.parts c.push.new.self c.push_greens.new.parts c.push_entries.new.parts c.push-2.new.self c.in_ok-greens.greens c.in_ok-entries.entries
    c.in_ok-parts.ensures first c.in_ok-greens.ensures.value c.in_ok-push_greens.ensures c.in_ok-entries.ensures.value c.in_ok-push_entries.ensures c.in_ok-push-2.ensures.ok in
    λ i. record { name = c.args.name; parts = all i }
