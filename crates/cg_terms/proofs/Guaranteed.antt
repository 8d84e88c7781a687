-- What the steps of a run agree on gives all guarantees.
use Rattle.cg_terms.specs.Terms.{AgreementGuarantees}
use Rattle.cg_terms.proofs.Linear.{grounds-of, linearizable, strongly-linearizable}
use Rattle.cg_terms.proofs.Kept.{durable, exactly-once, prefix-reads, no-split_brain}

pub guarantees : AgreementGuarantees
guarantees steps refused agree =
    let grounds = grounds-of steps agree.creator_order agree.fold_answers in
    record {
      linearizable = linearizable steps grounds;
      strongly_linearizable = strongly-linearizable steps grounds;
      durable = durable steps agree.order_grows agree.prefix agree.creator_order agree.fold_answers agree.one_primary;
      exactly_once = exactly-once steps agree.order_grows agree.prefix agree.creator_order agree.fold_answers agree.one_primary;
      prefix_reads = prefix-reads steps agree.order_grows agree.prefix agree.creator_order agree.fold_answers agree.one_primary;
      no_split_brain = no-split_brain steps agree.order_grows agree.prefix agree.creator_order agree.fold_answers agree.one_primary;
    }
