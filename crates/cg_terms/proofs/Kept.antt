-- What was acknowledged stays, once, and what is read is a prefix.
use Rattle.std.proofs.Common.{◌≡◌, ℕ, zero, suc, ◌≤◌, List, [], ◌∷◌, ◌++◌, map, flat_map, length, take, Some, Contains, refl, sym, ap, ap₂, ◌∙◌, subst, inl, inr, arith, append_assoc, append-nil}
use Rattle.std.proofs.lemmas.Bool.{cases_lt}
use Rattle.std.proofs.lemmas.List.{take-append-le, length-append}
use Rattle.std.proofs.lemmas.List.Elements.{Contains-append_cases}
use Rattle.cg_base.specs.declared.action_id.ActionId.{ActionId}
use Rattle.cg_db.specs.Apply.{fold_actions}
use Rattle.cg_db.specs.Find.{answer}
use Rattle.cg_report.specs.declared.entry.Shown.TheVariants.{Weak as ShownWeak}
use Rattle.cg_client.specs.Replica.{Replica}
use Rattle.cg_queue.specs.Queue.{green_count}
use Rattle.cg_report.specs.declared.entry.Reply.{Reply}
use Rattle.cg_model.specs.World.{replica_of}
use Rattle.cg_model.specs.Run.{Step}
use Rattle.cg_model.specs.Shown.{made_actions, order_of, ordered_actions, position_of}
use Rattle.cg_model.specs.Agreement.{ComesAfter, through, IsDue, OrderGrows, Prefix, CreatorOrder, FoldAnswers, OnePrimary}
use Rattle.cg_terms.specs.Linearizable.{AllDiffer, replied_in}
use Rattle.cg_terms.specs.Guarantees.{shown_by, IsPrefixState, Durable, ExactlyOnce, PrefixReads, NoSplitBrain}
use Rattle.cg_terms.proofs.Places.{contains-map_back, split-at, differ-append}
use Rattle.cg_model.specs.MadeLaws.{AreMade, actions-more}
use Rattle.cg_terms.proofs.Counts.{position-within, count-within}
use Rattle.cg_terms.proofs.Linear.{IsReplyIn, grounds-of, grounds-front, all-made}
use Rattle.cg_base.specs.ElementLaws.{contains-none, contains-here, contains-later, contains-cases, take-there}
use Rattle.cg_model.specs.RunLaws.{through-append, order-append}

-- ---- fronts of lists

module _ {X : Type 0} where
  take-more : (m n : ℕ) (xs ys : List X) (x : X) → m ≤ n → Contains (take m xs) x → Contains (take n (xs ++ ys)) x
  take-more zero n xs ys x less there = absurd (contains-none x there)
  take-more (suc m) n [] ys x less there = absurd (contains-none x there)
  take-more (suc m) zero (y ∷ xs) ys x less there = absurd (omega (arith, less))
  take-more (suc m) (suc n) (y ∷ xs) ys x less there = elim (contains-cases y (take m xs) x there) [
    | inl here ↦ subst (Contains (y ∷ take n (xs ++ ys))) here (contains-here y (take n (xs ++ ys)))
    | inr later ↦ contains-later y (take n (xs ++ ys)) x (take-more m n xs ys x (let fewer : suc m ≤ suc n = less in omega arith) later)
  ]

  take-reaches : (n : ℕ) (before : List X) (x : X) (after : List X) → suc (length before) ≤ n → Contains (take n (before ++ x ∷ after)) x
  take-reaches zero before x after less = absurd (omega (arith, less))
  take-reaches (suc n) [] x after less = contains-here x (take n after)
  take-reaches (suc n) (y ∷ before) x after less =
      contains-later y (take n (before ++ x ∷ after)) x (take-reaches n before x after (let fewer : suc (suc (length before)) ≤ suc n = less in omega arith))

module _ {X Y : Type 0} (f : X → List Y) where
  record IsFrom (xs : List X) (y : Y) : Type 0 where
    from : X
    there : Contains xs from
    is : Contains (f from) y

  flat-back : (xs : List X) (y : Y) → Contains (flat_map f xs) y → IsFrom xs y
  flat-back [] y there = absurd (contains-none y there)
  flat-back (x ∷ xs) y there = elim (Contains-append_cases (f x) (flat_map f xs) y there) [
    | inl first ↦ record { from = x; there = contains-here x xs; is = first }
    | inr later ↦ let rest = flat-back xs y later in record { from = rest.from; there = contains-later x xs rest.from rest.there; is = rest.is }
  ]

-- ---- positions that never fall

pub behind-it : (steps earlier later : List Step) (s : Step) → steps ≡ earlier ++ s ∷ later → steps ≡ through earlier s ++ later
behind-it steps earlier later s is = is ∙ sym (through-append earlier s later)

module _ (steps : List Step) (never_falls : (earlier : List Step) (s : Step) (p : ℕ) → ComesAfter steps earlier s → position_of p earlier ≤ position_of p (through earlier s)) where
  pub position-grows : (earlier between later : List Step) (p : ℕ) → steps ≡ earlier ++ (between ++ later) → position_of p earlier ≤ position_of p (earlier ++ between)
  position-grows earlier [] later p is = (let same : position_of p (earlier ++ []) ≡ position_of p earlier = ap (position_of p) (append-nil earlier) in omega arith)
  position-grows earlier (s ∷ between) later p is =
      let one = never_falls earlier s p (between ++ later, is) in
      let rest = position-grows (through earlier s) between later p (behind-it steps earlier (between ++ later) s is) in
      let same : position_of p (through earlier s ++ between) ≡ position_of p (earlier ++ s ∷ between) = ap (position_of p) (through-append earlier s between) in
      omega arith

  pub shown-grows : (earlier between later : List Step) (p : ℕ) (id : ActionId) → steps ≡ earlier ++ (between ++ later) → Contains (shown_by p earlier) id → Contains (shown_by p (earlier ++ between)) id
  shown-grows earlier between later p id is there =
      subst (λ (ids : List ActionId). Contains (take (position_of p (earlier ++ between)) ids) id) (sym (order-append earlier between))
      (take-more (position_of p earlier) (position_of p (earlier ++ between)) (order_of earlier) (order_of between) id (position-grows earlier between later p is) there)

  -- what was replied to, and shown so, is shown ever after
  pub own-writes : ((earlier : List Step) (s : Step) (id : ActionId) → ComesAfter steps earlier s → Contains (replied_in s) id → Contains (shown_by id.creator (through earlier s)) id) →
      (earlier between later : List Step) (s : Step) (id : ActionId) → steps ≡ earlier ++ s ∷ (between ++ later) →
      Contains (replied_in s) id → Contains (shown_by id.creator (earlier ++ s ∷ between)) id
  own-writes acknowledged earlier between later s id is told =
      subst (λ (xs : List Step). Contains (shown_by id.creator xs) id) (through-append earlier s between)
      (shown-grows (through earlier s) between later id.creator id (behind-it steps earlier (between ++ later) s is) (acknowledged earlier s id (between ++ later, is) told))

module _ (steps : List Step) (grows : OrderGrows steps) (prefix : Prefix steps) (creators : CreatorOrder steps) (answers : FoldAnswers steps) (primary : OnePrimary steps) where
  -- ---- the order

  -- the actions of the first places are the same behind each later step
  ordered-more : (front later : List Step) (n : ℕ) → steps ≡ front ++ later → n ≤ length (order_of front) → ordered_actions steps n ≡ ordered_actions front n
  ordered-more front later n is less =
      let made : AreMade front (order_of front) = all-made front (grounds-front steps front later is (grounds-of steps creators answers)) in
      let names : take n (order_of steps) ≡ take n (order_of front) =
      ap (λ (xs : List Step). take n (order_of xs)) is ∙ ap (take n) (order-append front later) ∙ take-append-le n (order_of front) (order_of later) less in
      ap (made_actions steps) names ∙ ap (λ (xs : List Step). made_actions xs (take n (order_of front))) is
      ∙ actions-more front later (take n (order_of front)) (λ id there. made id (take-there n (order_of front) id there))

  order-longer : (front later : List Step) → steps ≡ front ++ later → length (order_of front) ≤ length (order_of steps)
  order-longer front later is =
      let whole : length (order_of steps) ≡ length (order_of front ++ order_of later) = ap (λ (xs : List Step). length (order_of xs)) is ∙ ap length (order-append front later) in
      let both = length-append (order_of front) (order_of later) in
      omega arith

  prefix-state : (earlier : List Step) (s : Step) (p : ℕ) (r : Replica) → ComesAfter steps earlier s → replica_of s.world p ≡ Some r → IsPrefixState steps r
  prefix-state earlier s p r after up =
      let is = behind-it steps earlier after.0 s after.1 in
      let reaches = prefix.held earlier s p r after up in
      let longer = order-longer (through earlier s) after.0 is in
      let within = reaches.0.0 in (
        omega arith,
        answers.held earlier s p r after up ∙ ap fold_actions (sym (ordered-more (through earlier s) after.0 (green_count r.held.queue) is within)),
      )

  prefix-state_in : (s : Step) (p : ℕ) (r : Replica) → Contains steps s → replica_of s.world p ≡ Some r → IsPrefixState steps r
  prefix-state_in s p r there up = let at = split-at steps s there in prefix-state at.before s p r (at.after, at.is) up

  -- ---- replies

  -- where the reply stands in the order, and that its creator passes that place in this step
  record IsGiven (earlier : List Step) (s : Step) (id : ActionId) : Type 0 where
    before : List ActionId
    after : List ActionId
    order : order_of (through earlier s) ≡ before ++ id ∷ after
    due : IsDue earlier s id (suc (length before))

  given : (earlier : List Step) (s : Step) (id : ActionId) → ComesAfter steps earlier s → Contains (replied_in s) id → IsGiven earlier s id
  given earlier s id there told =
      let is = contains-map_back (λ (r : Reply). r.id) s.entry.replies id told in
      let reply : IsReplyIn (through earlier s) is.from = answers.reply earlier s is.from there is.there in
      let order : order_of (through earlier s) ≡ reply.0 ++ id ∷ reply.1 = reply.3 ∙ ap (λ (x : ActionId). reply.0 ++ x ∷ reply.1) is.is in
      record { before = reply.0; after = reply.1; order = order; due = (answers.when earlier s reply.0 reply.1 id there order).0 told }

  acknowledged : (earlier : List Step) (s : Step) (id : ActionId) → ComesAfter steps earlier s → Contains (replied_in s) id → Contains (shown_by id.creator (through earlier s)) id
  acknowledged earlier s id there told =
      let it = given earlier s id there told in
      subst (λ (ids : List ActionId). Contains (take (position_of id.creator (through earlier s)) ids) id) (sym it.order)
      (take-reaches (position_of id.creator (through earlier s)) it.before id it.after it.due.0.1)

  never-again : (earlier between later : List Step) (s t : Step) (id : ActionId) → steps ≡ earlier ++ s ∷ (between ++ t ∷ later) → Contains (replied_in s) id → Contains (replied_in t) id → ⊥
  never-again earlier between later s t id is told again =
      let now : List Step = through earlier s in
      let first = given earlier s id (between ++ t ∷ later, is) told in
      let whole : steps ≡ now ++ (between ++ t ∷ later) = behind-it steps earlier (between ++ t ∷ later) s is in
      let there : ComesAfter steps (now ++ between) t = (later, whole ∙ sym (append_assoc now between (t ∷ later))) in
      let order : order_of (through (now ++ between) t) ≡ first.before ++ id ∷ (first.after ++ (order_of between ++ order_of (t ∷ []))) =
      ap (λ (xs : List Step). order_of xs) (append_assoc now between (t ∷ [])) ∙ order-append now (between ++ t ∷ [])
      ∙ ap₂ (λ (xs ys : List ActionId). xs ++ ys) first.order (order-append between (t ∷ []))
      ∙ append_assoc first.before (id ∷ first.after) (order_of between ++ order_of (t ∷ [])) in
      let due : IsDue (now ++ between) t id (suc (length first.before)) =
      (answers.when (now ++ between) t first.before (first.after ++ (order_of between ++ order_of (t ∷ []))) id there order).0 again in
      let passed = first.due.0.1 in
      let not_yet = due.0.0 in
      let grown = position-grows steps prefix.never_falls now between (t ∷ later) id.creator whole in
      omega arith

  replies-differ : (s : Step) → Contains steps s → (front rest : List Reply) → s.entry.replies ≡ front ++ rest → AllDiffer (map (λ r. r.id) rest)
  replies-differ s there front [] is = tt
  replies-differ s there front (r ∷ rest) is = (
    (λ again.
        let other = contains-map_back (λ (r : Reply). r.id) rest r.id again in
        let at = split-at rest other.from other.there in
        answers.once s front at.before at.after r other.from there (is ∙ ap (λ (rs : List Reply). front ++ r ∷ rs) at.is) (sym other.is)),
    replies-differ s there (front ++ r ∷ []) rest (is ∙ sym (append_assoc front (r ∷ []) rest)),
  )

  replied-once : (earlier later : List Step) → steps ≡ earlier ++ later → AllDiffer (flat_map replied_in later)
  replied-once earlier [] is = tt
  replied-once earlier (s ∷ later) is =
      let there : Contains steps s = subst (λ (xs : List Step). Contains xs s) (sym is) (at-it earlier s later) in
      differ-append (replied_in s) (flat_map replied_in later) (replies-differ s there [] s.entry.replies refl) (replied-once (through earlier s) later (behind-it steps earlier later s is))
      (λ id told again.
      let other = flat-back replied_in later id again in
      let at = split-at later other.from other.there in
      never-again earlier at.before at.after s other.from id (is ∙ ap (λ (xs : List Step). earlier ++ s ∷ xs) at.is) told other.is) where
        at-it : (earlier : List Step) (s : Step) (later : List Step) → Contains (earlier ++ s ∷ later) s
        at-it [] s later = contains-here s later
        at-it (x ∷ earlier) s later = contains-later x (earlier ++ s ∷ later) s (at-it earlier s later)

  -- ---- the guarantees

  pub durable : Durable steps
  durable =
      record {
        acknowledged = acknowledged;
        kept = shown-grows steps prefix.never_falls;
        applied = λ earlier s p r id after up there.
            let is = behind-it steps earlier after.0 s after.1 in
            let reaches = prefix.held earlier s p r after up in (
              subst (λ (ids : List ActionId). Contains (take (green_count r.held.queue) ids) id) (sym (ap (λ (xs : List Step). order_of xs) is ∙ order-append (through earlier s) after.0))
                  (take-more (position_of p (through earlier s)) (green_count r.held.queue) (order_of (through earlier s)) (order_of after.0) id
                  (let same = reaches.1 in omega arith) there),
              prefix-state earlier s p r after up,
            );
      }

  pub exactly-once : ExactlyOnce steps
  exactly-once = record { ordered = (grounds-of steps creators answers).differ; replied = replied-once [] steps refl; applied = prefix-state_in }

  pub prefix-reads : PrefixReads steps
  prefix-reads =
      record {
        prefix = λ earlier s p q after weak.
            let is = behind-it steps earlier after.0 s after.1 in
            let within = position-within steps grows (through earlier s) after.0 p is in
            let longer = order-longer (through earlier s) after.0 is in (
              omega arith,
              answers.weak earlier s p q after weak ∙ ap (λ actions. ShownWeak p (answer (fold_actions actions) q) ∷ []) (sym (ordered-more (through earlier s) after.0 (position_of p (through earlier s)) is within)),
            );
        monotonic = position-grows steps prefix.never_falls;
        own_writes = own-writes steps prefix.never_falls acknowledged;
      }

  pub no-split_brain : NoSplitBrain steps
  no-split_brain =
      record {
        one = primary.one;
        outside = λ earlier s l up after there shown not_primary not_recovery.
            elim (cases_lt (length (order_of earlier)) up.view.green_count) [
              | inl more ↦
                  let within = count-within steps grows earlier after.0 s l up (behind-it steps earlier after.0 s after.1) there shown in
                  absurd (elim (primary.longer earlier s l up after (omega arith) there shown more) [ inl is ↦ not_primary is | inr is ↦ not_recovery is ])
              | inr fewer ↦ fewer
            ];
        together = prefix-state_in;
      }
