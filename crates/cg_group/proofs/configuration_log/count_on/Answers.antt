use Rattle.std.proofs.Common.{◌≡◌, ◌∷◌, ◌∙◌, [], ℕ, List, suc, ap, sym, subst, arith}
use Rattle.cg_group.specs.Logs.{IsSettled}
use Rattle.cg_group.proofs.SettledFacts.{AreFronts-counted, front_of}
use Rattle.cg_group.proofs.configuration_log.count_on.Goals as goal

pub settled_from-requires : goal.settled_from-requires
settled_from-requires g c =
    let before = front_of c.args.ordered.now c.args.fronts.now.items c.args.p c.from-slot.result c.index.result.now c.requires (omega arith) (omega arith) c.index.ensures in
    before.within

pub returns : goal.returns
returns g c =
    let before = front_of c.args.ordered.now c.args.fronts.now.items c.args.p c.from-slot.result c.index.result.now c.requires (omega arith) (omega arith) c.index.ensures in
    let single : c.args.p ∷ [] ≡ c.single.result = sym c.single.ensures in
    let own : c.single.result ≡ suc c.from-slot.result ∷ [] = c.single.ensures ∙ ap (λ (q : ℕ). q ∷ []) (omega arith) in
    let counted = c.settled_from.ensures (subst (λ (members : List ℕ). IsSettled members c.args.ordered.now c.index.result.now) single before) in
    AreFronts-counted c.args.ordered.now c.args.fronts.now.items c.from-slot.result c.settled_from.result c.requires
    (subst (λ (members : List ℕ). IsSettled members c.args.ordered.now c.settled_from.result) own counted)
