-- A turn that marks nothing but delivered actions red, and creates nothing: what is held goes on from what was held.
use Rattle.std.proofs.Common.{◌≡◌, ℕ, zero, suc, ◌+◌, ◌-◌, ◌≤◌, max, Bool, true, false, not, ◌&&◌, ◌||◌, List, [], ◌∷◌, ◌++◌, fold, drop, length, Option, refl, sym, ap, ◌∙◌, subst, arith, inl, inr, eqb-true, nat_lt}
use Rattle.std.specs.Prelude.{◌==◌}
use Rattle.std.proofs.lemmas.Bool.{cases_eq, eq-eqb, ltb-false, and_parts, not-false}
use Rattle.cg_base.specs.EachLaws.{Each-all}
use Rattle.cg_base.specs.declared.action_id.ActionId.{ActionId}
use Rattle.cg_base.specs.Cuts.{index_in, raise}
use Rattle.cg_base.specs.IdLaws.{same_id-true, same_id-false, same_name}
use Rattle.cg_base.specs.Text.{is_nil}
use Rattle.cg_base.specs.ListLaws.{is_nil-false}
use Rattle.cg_action.specs.declared.action.Action.{Action}
use Rattle.cg_action.specs.declared.action.Kind.{Kind}
use Rattle.cg_queue.specs.Queue.{names_of, placed_red, Marking, Marks, Gaps, marked_red}
use Rattle.cg_queue.specs.declared.mark.Mark.TheVariants.{Placed, Known}
use Rattle.cg_records.specs.declared.primary.Primary.{Primary}
use Rattle.cg_records.specs.declared.vulnerable.Vulnerable.{Vulnerable}
use Rattle.cg_records.specs.declared.yellow.Yellow.{Yellow}
use Rattle.cg_client.specs.Replica.{Held, last_index, created}
use Rattle.cg_client.specs.Turn.{Turn}
use Rattle.cg_client.specs.Marks.{is_unmade, after_first, marked, place_green}
use Rattle.cg_client.specs.Summary.{redden, forget_own, own_to_red}
use Rattle.cg_disk_records.specs.Commit.{same_values, commits}
use Rattle.cg_model.specs.FactsReplica.{GoesOn}
use Rattle.cg_disk_records.specs.Holds.{run_on, Rising}
use Rattle.cg_disk_records.specs.HeldLaws.{are_of, are-after, own-after, created-behind, after-there, after-here}
use Rattle.cg_disk_records.specs.ValueLaws.{one-value}
use Rattle.cg_agree_lemmas.specs.TurnRows.{IsRule}
use Rattle.cg_disk_records.specs.CutRaiseLaws.{index-other, index-rises, rising-raise}
use Rattle.cg_disk_records.specs.RunMarkLaws.{run-head, run-rest}

-- nothing became green, nothing was made, and no own action became red before it was delivered
pub record IsUnnoted (t : Turn) : Type 0 where
  pub marked_own : t.marked_own ≡ false
  pub green : t.green ≡ []
  pub made : t.made ≡ []

-- what is held now goes on from what was held: more delivered actions are red
pub record IsFurther (old new : Held) : Type 0 where
  pub id : new.id ≡ old.id
  pub white : new.queue.white ≡ old.queue.white
  pub green_cut : new.queue.green_cut ≡ old.queue.green_cut
  pub red : (creator : ℕ) → index_in old.queue.red_cut creator ≤ index_in new.queue.red_cut creator
  pub created : created new ≡ created old
  pub own : new.own ≡ drop (length old.own - length new.own) old.own
  pub fewer : length new.own ≤ length old.own

-- the own actions go on behind what is known
pub record OwnRuns (h : Held) : Type 0 where
  pub rising : Rising 0 h.queue.red_cut
  pub run : run_on h.queue.red_cut (names_of h.own) ≡ true
  pub mine : are_of h.id h.own ≡ true

-- so it is of a turn where nothing was noted
abbrev pub StaysBehind : Held → Turn → Type 0
StaysBehind old t = IsUnnoted t → IsFurther old t.replica.held × OwnRuns t.replica.held

no-less : (n : ℕ) → n - n ≡ 0
no-less n = omega arith

pub further-refl : (h : Held) → IsFurther h h
further-refl h = record {
  id = refl;
  white = refl;
  green_cut = refl;
  red = λ creator. omega arith;
  created = refl;
  own = sym (ap (λ n. drop n h.own) (no-less (length h.own)));
  fewer = omega arith;
}

-- ---- a red mark

drop-next : {X : Type 0} (n : ℕ) (xs : List X) (y : X) (rest : List X) → drop n xs ≡ y ∷ rest → drop (suc n) xs ≡ rest
drop-next zero [] y rest e = absurd (let clash : [] ≡ y ∷ rest = e in cc)
drop-next zero (x ∷ xs) y rest e = ap tail e where
  tail : {X : Type 0} → List X → List X
  tail [] = []
  tail (x ∷ xs) = xs
drop-next (suc n) [] y rest e = absurd (let clash : [] ≡ y ∷ rest = e in cc)
drop-next (suc n) (x ∷ xs) y rest e = drop-next n xs y rest e

own-next : (old : List Action) (b : Action) (rest : List Action) → b ∷ rest ≡ drop (length old - suc (length rest)) old → suc (length rest) ≤ length old →
    rest ≡ drop (length old - length rest) old
own-next old b rest is fewer =
    sym (drop-next (length old - suc (length rest)) old b rest (sym is))
    ∙ ap (λ n. drop n old) (let same : suc (length old - suc (length rest)) ≡ length old - length rest = omega arith in same)

-- what is left of the own actions behind a mark
pub record LeftOwn (old : List Action) (red : List ActionId) (me : ℕ) (own left : List Action) (id : ActionId) : Type 0 where
  pub made : max (index_in (raise red id) me) (last_index left) ≡ max (index_in red me) (last_index own)
  pub later : left ≡ drop (length old - length left) old
  pub fewer : length left ≤ length old

abbrev pub later_own : List Action → List Action → Type 0
later_own old own = (own ≡ drop (length old - length own) old) × (length own ≤ length old)

-- an own action that is known next is the first of those that weren't delivered
pub left-own : (old : List Action) (red : List ActionId) (me : ℕ) (own : List Action) (id : ActionId) → Rising 0 red → run_on red (names_of own) ≡ true → are_of me own ≡ true →
    id.index ≡ suc (index_in red id.creator) → (id.creator ≡ me → id.index ≤ max (index_in red me) (last_index own)) → later_own old own →
    LeftOwn old red me own (after_first own id) id
left-own old red me [] id rising run mine next made later = elim (cases_eq id.creator me) [
  | inl same ↦
      let at : index_in red id.creator ≡ index_in red me = ap (index_in red) same in
      let le : id.index ≤ max (index_in red me) 0 = made same in
      absurd (omega arith)
  | inr apart ↦ record { made = ap (λ n. max n 0) (index-other red id rising me apart); later = later.0; fewer = later.1 }
]
left-own old red me (b ∷ own) id rising run mine next made later =
    let parts = and_parts (b.id.creator == me) (are_of me own) mine in
    let of_me : b.id.creator ≡ me = eqb-true b.id.creator me parts.0 in
    elim (cases_eq id.creator me) [
      | inl same ↦
          let first : b.id.index ≡ suc (index_in red b.id.creator) = run-head red b.id (names_of own) run in
          let one : b.id ≡ id = same_name b.id id (of_me ∙ sym same) (first ∙ ap (λ p. suc (index_in red p)) (of_me ∙ sym same) ∙ sym next) in
          let behind = created-behind red me (b ∷ own) rising run mine in
          let rest = created-behind (raise red b.id) me own (rising-raise red b.id rising) (run-rest red b.id (names_of own) run) parts.1 in
          subst (λ (xs : List Action). LeftOwn old red me (b ∷ own) xs id) (sym (after-here b own id (same_id-true b.id id (of_me ∙ sym same) (ap (λ (x : ActionId). x.index) one))))
          (record {
            made = ap (λ x. max (index_in (raise red x) me) (last_index own)) (sym one) ∙ sym rest ∙ behind;
            later = own-next old b own later.0 later.1;
            fewer = let le = later.1 in omega arith;
          })
      | inr apart ↦
          subst (λ (xs : List Action). LeftOwn old red me (b ∷ own) xs id) (sym (after-there b own id (same_id-false b.id id (inl (λ e. apart (sym e ∙ of_me))))))
          (record { made = ap (λ n. max n (last_index (b ∷ own))) (index-other red id rising me apart); later = later.0; fewer = later.1 })
    ]

-- who hasn't created it doesn't know it
pub made-by : (h : Held) (a : Action) → is_unmade h a ≡ false → a.id.creator ≡ h.id → a.id.index ≤ created h
unfolding is_unmade
made-by h a made same = ltb-false (created h) a.id.index (sym (ap (λ b. b && nat_lt (created h) a.id.index) (eq-eqb a.id.creator h.id same)) ∙ made)

further-known : (old h : Held) (a : Action) → a.id.index ≡ suc (index_in h.queue.red_cut a.id.creator) → is_unmade h a ≡ false → IsFurther old h → OwnRuns h →
    (let new = record h { queue = placed_red h.queue a; own = after_first h.own a.id } in IsFurther old new × OwnRuns new)
further-known old h a next made is runs =
    let left = left-own old.own h.queue.red_cut h.id h.own a.id runs.rising runs.run runs.mine next (made-by h a made) (is.own, is.fewer) in (
      record {
        id = is.id;
        white = is.white;
        green_cut = is.green_cut;
        red = λ creator. (let up = index-rises h.queue.red_cut a.id runs.rising creator in let low = is.red creator in omega arith);
        created = left.made ∙ is.created;
        own = left.later;
        fewer = left.fewer;
      },
      record {
        rising = rising-raise h.queue.red_cut a.id runs.rising;
        run = own-after h.id h.queue.red_cut h.own a.id runs.rising runs.run runs.mine (omega arith);
        mine = are-after h.id h.own a.id runs.mine;
      },
    )

-- ---- own actions

marked-noted : (t : Turn) (a : Action) (m : Marking) → (marked t a m).marked_own ≡ t.marked_own
marked-noted t a (Marks Placed q) = refl
marked-noted t a (Marks Known q) = refl
marked-noted t a (Gaps cut) = refl

reddened-noted : (list : List Action) (t : Turn) → (fold redden t list).marked_own ≡ t.marked_own
reddened-noted [] t = refl
reddened-noted (a ∷ list) t = reddened-noted list (redden t a) ∙ marked-noted t a (marked_red t.replica.held.queue a)

or-first : (a b : Bool) → (a || b) ≡ false → a ≡ false
or-first true b e = absurd (let clash : true ≡ false = e in cc)
or-first false b e = refl

or-second : (a b : Bool) → (a || b) ≡ false → b ≡ false
or-second true b e = absurd (let clash : true ≡ false = e in cc)
or-second false b e = e

-- none is red before it was delivered: there is none
own_red-behind : (old : Held) (t : Turn) → StaysBehind old t → StaysBehind old (own_to_red t)
unfolding own_to_red
own_red-behind old t p unnoted =
    let h = t.replica.held in
    let marked : (t.marked_own || not (is_nil h.own)) ≡ false = sym (reddened-noted h.own (forget_own t)) ∙ unnoted.marked_own in
    at h.own refl (is_nil-false h.own (or-second t.marked_own (not (is_nil h.own)) marked)) (or-first t.marked_own (not (is_nil h.own)) marked) unnoted where
      forgotten : (h : Held) → h.own ≡ [] → record h { own = [] } ≡ h
      forgotten h e = λ i. record h { own = sym e i }

      at : (own : List Action) → t.replica.held.own ≡ own → own ≡ [] → t.marked_own ≡ false → IsUnnoted (fold redden (forget_own t) own) →
          IsFurther old (fold redden (forget_own t) own).replica.held × OwnRuns (fold redden (forget_own t) own).replica.held
      at (a ∷ own) e none unmarked u = absurd (let clash : a ∷ own ≡ [] = none in cc)
      at [] e none unmarked u =
          subst (λ (h : Held). IsFurther old h × OwnRuns h) (sym (forgotten t.replica.held e)) (p (record { marked_own = unmarked; green = u.green; made = u.made }))

-- ---- each change

pub nil-more : {X : Type 0} (xs : List X) (x : X) → xs ++ x ∷ [] ≡ [] → ⊥
nil-more [] x e = let clash : x ∷ [] ≡ [] = e in cc
nil-more (y ∷ xs) x e = let clash : y ∷ (xs ++ x ∷ []) ≡ [] = e in cc

pub stays-rule : (old : Held) → IsRule (StaysBehind old) (λ a. Unit {0})
unfolding place_green
stays-rule old = record {
  greens = λ t p. Each-all (λ (a : Action). Unit {0}) (λ a. tt) t.replica.held.queue.greens;
  reds = λ t p. Each-all (λ (a : Action). Unit {0}) (λ a. tt) t.replica.held.queue.reds;
  goes = λ t state apart p u. p (record { marked_own = u.marked_own; green = u.green; made = u.made });
  leaves = λ t p u. same-held old t.replica.held [] t.replica.held.queue.yellow t.replica.held.yellow_valid t.replica.held.prim t.replica.held.attempt_index t.replica.held.vulnerable
      (p (record { marked_own = u.marked_own; green = u.green; made = u.made }));
  says = λ t m none p u. p (record { marked_own = u.marked_own; green = u.green; made = u.made });
  part = λ t part p u. p (record { marked_own = u.marked_own; green = u.green; made = u.made });
  values = λ t yellow valid prim index v p u. same-held old t.replica.held t.replica.held.buffered yellow valid prim index v
      (p (record { marked_own = u.marked_own; green = u.green; made = u.made }));
  known = λ t a fine next made p u. (let is = p (record { marked_own = u.marked_own; green = u.green; made = u.made }) in further-known old t.replica.held a next made is.0 is.1);
  green = λ t a fine next made p u. absurd (nil-more t.green a.id u.green);
  own_red = λ t p. own_red-behind old t p;
} where
  same-held : (old h : Held) (buffered : List Kind) (yellow : List ActionId) (valid : Bool) (prim : Primary) (index : ℕ) (v : Option Vulnerable) → IsFurther old h × OwnRuns h →
      (let q = h.queue in let new = record h { queue = record q { yellow = yellow }; yellow_valid = valid; prim = prim; attempt_index = index; vulnerable = v; buffered = buffered } in IsFurther old new × OwnRuns new)
  same-held old h buffered yellow valid prim index v is = (
    record {
      id = is.0.id;
      white = is.0.white;
      green_cut = is.0.green_cut;
      red = is.0.red;
      created = is.0.created;
      own = is.0.own;
      fewer = is.0.fewer;
    },
    record { rising = is.1.rising; run = is.1.run; mine = is.1.mine },
  )

-- ---- and with the values that a record has

-- an event that makes no commit
pub record IsKeeping (old : Held) (t : Turn) : Type 0 where
  pub unnoted : IsUnnoted t
  pub values : same_values old t.replica.held ≡ true

pub keeping-of : (old : Held) (t : Turn) → commits old t ≡ false → IsKeeping old t
unfolding commits
keeping-of old t none =
    let g = not (is_nil t.green) in
    let m = not (is_nil t.made) in
    let v = not (same_values old t.replica.held) in
    let first = or-first ((t.marked_own || g) || m) v none in
    let second = or-first (t.marked_own || g) m first in
    record {
      unnoted = record {
        marked_own = or-first t.marked_own g second;
        green = is_nil-false t.green (or-second t.marked_own g second);
        made = is_nil-false t.made (or-second (t.marked_own || g) m first);
      };
      values = not-false (same_values old t.replica.held) (or-second ((t.marked_own || g) || m) v none);
    }

abbrev no_actions : List Action
no_actions = []

drop-none : (n : ℕ) → drop n no_actions ≡ []
drop-none zero = refl
drop-none (suc n) = refl

drop-both : (m n : ℕ) (xs : List Action) → drop n (drop m xs) ≡ drop (m + n) xs
drop-both zero n xs = ap (λ k. drop k xs) (let same : n ≡ 0 + n = omega arith in same)
drop-both (suc m) n [] = drop-none n ∙ sym (drop-none (suc m + n))
drop-both (suc m) n (x ∷ xs) = drop-both m n xs ∙ ap (λ k. drop k (x ∷ xs)) (let same : suc (m + n) ≡ suc m + n = omega arith in same)

drop-fewer : {X : Type 0} (n : ℕ) (xs : List X) → length (drop n xs) ≤ length xs
drop-fewer zero xs = omega arith
drop-fewer (suc n) [] = omega arith
drop-fewer (suc n) (x ∷ xs) = let le = drop-fewer n xs in omega arith

-- what is held goes on from what stands on the disk
pub goes-further : (disk old new : Held) → GoesOn old disk → IsFurther old new → same_values old new ≡ true → GoesOn new disk
goes-further disk old new on is same =
    let values = one-value old new same in
    let few : length old.own ≤ length disk.own = subst (λ n. n ≤ length disk.own) (sym (ap length on.own)) (drop-fewer (length disk.own - length old.own) disk.own) in
    let fewer = is.fewer in
    record {
      white = is.white ∙ on.white;
      green = is.green_cut ∙ on.green;
      red = λ creator. (let a = on.red creator in let b = is.red creator in omega arith);
      yellow = ap (λ (y : Yellow). y.list) (sym values.yellow) ∙ on.yellow;
      yellow_valid = ap (λ (y : Yellow). y.valid) (sym values.yellow) ∙ on.yellow_valid;
      prim = sym values.prim ∙ on.prim;
      attempt_index = sym values.attempt_index ∙ on.attempt_index;
      vulnerable = sym values.vulnerable ∙ on.vulnerable;
      created = is.created ∙ on.created;
      own = is.own ∙ ap (drop (length old.own - length new.own)) on.own ∙ drop-both (length disk.own - length old.own) (length old.own - length new.own) disk.own
          ∙ ap (λ n. drop n disk.own) (let sum : length disk.own - length old.own + (length old.own - length new.own) ≡ length disk.own - length new.own = omega arith in sum);
    }
