-- What a recovery shows as made counts what its replica has created: its own reds that weren't shown.
use Rattle.std.proofs.Common.{◌≡◌, ℕ, suc, ◌≤◌, max, Bool, true, false, ◌&&◌, List, [], ◌∷◌, ◌++◌, filter, refl, sym, ap, ap₂, ◌∙◌, arith, inl, inr, eq-eqb, nat_lt}
use Rattle.std.specs.Prelude.{◌==◌}
use Rattle.std.proofs.lemmas.Bool.{cases_eq, cases_lt, cases_Bool, cond-true, cond-false, ne_eqb, lt-ltb, le-ltb}
use Rattle.cg_base.specs.declared.action_id.ActionId.{ActionId}
use Rattle.cg_base.specs.declared.weighted.Weighted.{Weighted}
use Rattle.cg_base.specs.Cuts.{index_in, raise}
use Rattle.cg_action.specs.declared.action.Action.{Action}
use Rattle.cg_queue.specs.Queue.{names_of}
use Rattle.cg_client.specs.Replica.{NonPrim, last_index, created}
use Rattle.cg_client.specs.Turn.{begin}
use Rattle.cg_client.specs.Summary.{own_to_red}
use Rattle.cg_disk_records.specs.Stored.{recovery_turn}
use Rattle.cg_disk_records.specs.Crash.{Disk, recovered}
use Rattle.cg_disk_records.specs.Holds.{run_on, cut_behind, Rising}
use Rattle.cg_model.specs.Show.{unshown}
use Rattle.cg_disk_records.specs.CutRaiseLaws.{index-same, index-other, rising-raise}
use Rattle.cg_disk_records.specs.RunMarkLaws.{run-head, run-rest, run-from}
use Rattle.cg_agree_lemmas.specs.HeldMarks.{IsOneself, rising-green}
use Rattle.cg_agree_lemmas.specs.HeldOwn.{own-reddened, created-same}
use Rattle.cg_agree_lemmas.specs.HeldTurns.{keeps-own_to_red}
use Rattle.cg_agree_lemmas.specs.LivesRest.{recovered-rests}

module _ (p n : ℕ) where
  -- the replica's own above that one
  abbrev is_above : Action → Bool
  is_above a = (a.id.creator == p) && nat_lt n a.id.index

  above-rises : (reds : List Action) (made cut : List ActionId) → Rising 0 made → Rising 0 cut → run_on cut (names_of reds) ≡ true →
      index_in made p ≡ max n (index_in cut p) → index_in (cut_behind made (names_of (filter is_above reds))) p ≡ max n (index_in (cut_behind cut (names_of reds)) p)
  above-rises [] made cut up rising run is = is
  above-rises (a ∷ reds) made cut up rising run is = elim (cases_eq a.id.creator p) [
    | inr other ↦
        let skips : is_above a ≡ false = ap (λ b. b && nat_lt n a.id.index) (ne_eqb a.id.creator p other) in
        ap (λ xs. index_in (cut_behind made (names_of xs)) p) (cond-false (is_above a) (a ∷ filter is_above reds) (filter is_above reds) skips)
        ∙ above-rises reds made (raise cut a.id) up (rising-raise cut a.id rising) (run-rest cut a.id (names_of reds) run)
        (is ∙ ap (max n) (sym (index-other cut a.id rising p other)))
    | inl mine ↦
        let next : a.id.index ≡ suc (index_in cut a.id.creator) = run-head cut a.id (names_of reds) run in
        let here : index_in cut a.id.creator ≡ index_in cut p = ap (index_in cut) mine in
        let raised : index_in (raise cut a.id) p ≡ max (index_in cut p) a.id.index = index-same cut a.id rising p mine in
        let first : (a.id.creator == p) ≡ true = eq-eqb a.id.creator p mine in
        elim (cases_lt n a.id.index) [
          | inl above ↦
              let takes : is_above a ≡ true = ap₂ (λ x y. x && y) first (lt-ltb n a.id.index above) in
              let shown : index_in (raise made a.id) p ≡ max (index_in made p) a.id.index = index-same made a.id up p mine in
              ap (λ xs. index_in (cut_behind made (names_of xs)) p) (cond-true (is_above a) (a ∷ filter is_above reds) (filter is_above reds) takes)
              ∙ above-rises reds (raise made a.id) (raise cut a.id) (rising-raise made a.id up) (rising-raise cut a.id rising) (run-rest cut a.id (names_of reds) run) (omega arith)
          | inr below ↦
              let skips : is_above a ≡ false = ap₂ (λ x y. x && y) first (le-ltb n a.id.index (omega arith)) in
              ap (λ xs. index_in (cut_behind made (names_of xs)) p) (cond-false (is_above a) (a ∷ filter is_above reds) (filter is_above reds) skips)
              ∙ above-rises reds made (raise cut a.id) up (rising-raise cut a.id rising) (run-rest cut a.id (names_of reds) run) (omega arith)
        ]
  ]

  -- and each is the next of that one
  above-runs : (reds : List Action) (made cut : List ActionId) → Rising 0 made → Rising 0 cut → run_on cut (names_of reds) ≡ true → index_in made p ≡ max n (index_in cut p) →
      run_on made (names_of (filter is_above reds)) ≡ true
  above-runs [] made cut up rising run is = refl
  above-runs (a ∷ reds) made cut up rising run is = elim (cases_eq a.id.creator p) [
    | inr other ↦
        let skips : is_above a ≡ false = ap (λ b. b && nat_lt n a.id.index) (ne_eqb a.id.creator p other) in
        ap (λ xs. run_on made (names_of xs)) (cond-false (is_above a) (a ∷ filter is_above reds) (filter is_above reds) skips)
        ∙ above-runs reds made (raise cut a.id) up (rising-raise cut a.id rising) (run-rest cut a.id (names_of reds) run)
        (is ∙ ap (max n) (sym (index-other cut a.id rising p other)))
    | inl mine ↦
        let next : a.id.index ≡ suc (index_in cut a.id.creator) = run-head cut a.id (names_of reds) run in
        let here : index_in cut a.id.creator ≡ index_in cut p = ap (index_in cut) mine in
        let raised : index_in (raise cut a.id) p ≡ max (index_in cut p) a.id.index = index-same cut a.id rising p mine in
        let first : (a.id.creator == p) ≡ true = eq-eqb a.id.creator p mine in
        elim (cases_lt n a.id.index) [
          | inl above ↦
              let takes : is_above a ≡ true = ap₂ (λ x y. x && y) first (lt-ltb n a.id.index above) in
              let shown : index_in (raise made a.id) p ≡ max (index_in made p) a.id.index = index-same made a.id up p mine in
              let there : index_in made a.id.creator ≡ index_in made p = ap (index_in made) mine in
              let follows : a.id.index ≡ suc (index_in made a.id.creator) = omega arith in
              ap (λ xs. run_on made (names_of xs)) (cond-true (is_above a) (a ∷ filter is_above reds) (filter is_above reds) takes)
              ∙ run-from made a.id (names_of (filter is_above reds)) follows
              (above-runs reds (raise made a.id) (raise cut a.id) (rising-raise made a.id up) (rising-raise cut a.id rising) (run-rest cut a.id (names_of reds) run) (omega arith))
          | inr below ↦
              let skips : is_above a ≡ false = ap₂ (λ x y. x && y) first (le-ltb n a.id.index (omega arith)) in
              ap (λ xs. run_on made (names_of xs)) (cond-false (is_above a) (a ∷ filter is_above reds) (filter is_above reds) skips)
              ∙ above-runs reds made (raise cut a.id) up (rising-raise cut a.id rising) (run-rest cut a.id (names_of reds) run) (omega arith)
        ]
  ]

  -- nobody else's
  above-others : (reds : List Action) (made : List ActionId) (q : ℕ) → Rising 0 made → (q ≡ p → ⊥) → index_in (cut_behind made (names_of (filter is_above reds))) q ≡ index_in made q
  above-others [] made q up apart = refl
  above-others (a ∷ reds) made q up apart = elim (cases_eq a.id.creator p) [
    | inr other ↦
        let skips : is_above a ≡ false = ap (λ b. b && nat_lt n a.id.index) (ne_eqb a.id.creator p other) in
        ap (λ xs. index_in (cut_behind made (names_of xs)) q) (cond-false (is_above a) (a ∷ filter is_above reds) (filter is_above reds) skips) ∙ above-others reds made q up apart
    | inl mine ↦ elim (cases_Bool (is_above a)) [
      | inl above ↦
          ap (λ xs. index_in (cut_behind made (names_of xs)) q) (cond-true (is_above a) (a ∷ filter is_above reds) (filter is_above reds) above)
          ∙ above-others reds (raise made a.id) q (rising-raise made a.id up) apart ∙ index-other made a.id up q (λ x. apart (sym x ∙ mine))
      | inr below ↦
          ap (λ xs. index_in (cut_behind made (names_of xs)) q) (cond-false (is_above a) (a ∷ filter is_above reds) (filter is_above reds) below) ∙ above-others reds made q up apart
    ]
  ]

-- what the recovery of a disk shows, where the replica's own greens were shown
pub record IsShownAgain (made : List ActionId) (p : ℕ) (disk : Disk) : Type 0 where
  pub id : (recovered disk).held.id ≡ p
  pub run : run_on made (names_of (unshown made (recovered disk).held)) ≡ true
  pub counted : index_in (cut_behind made (names_of (unshown made (recovered disk).held))) p ≡ created (recovered disk).held
  pub others : (q : ℕ) → (q ≡ p → ⊥) → index_in (cut_behind made (names_of (unshown made (recovered disk).held))) q ≡ index_in made q

pub recovery-shown : (made : List ActionId) (start : List Weighted) (p : ℕ) (disk : Disk) (all : List Action) → Rising 0 made → IsOneself start disk.content all → disk.content.id ≡ p →
    index_in made p ≤ created disk.content → index_in disk.content.queue.green_cut p ≤ index_in made p → IsShownAgain made p disk
unfolding recovery_turn
recovery-shown made start p disk all up is mine shown green =
    let old = disk.content in
    let t = begin (record { held = old; state = NonPrim false }) in
    let h = (own_to_red t).replica.held in
    let red = own-reddened start all t is in
    let grown = keeps-own_to_red start all t is in
    let named : h.id ≡ p = red.id ∙ mine in
    let same : created h ≡ created old = created-same start all t is in
    let n = index_in made p in
    let whole : created h ≡ index_in h.queue.red_cut p = (
    let none : last_index h.own ≡ 0 = ap last_index red.own in
    let here : index_in h.queue.red_cut h.id ≡ index_in h.queue.red_cut p = ap (index_in h.queue.red_cut) named in
    let is : created h ≡ max (index_in h.queue.red_cut h.id) (last_index h.own) = refl in
    omega arith
    ) in
    let cut : index_in h.queue.red_cut p ≡ index_in (cut_behind h.queue.green_cut (names_of h.queue.reds)) p = ap (λ c. index_in c p) grown.is.made_of.red_cut in
    let list : unshown made h ≡ filter (is_above p n) h.queue.reds = ap (λ m. filter (λ a. (a.id.creator == m) && nat_lt (index_in made m) a.id.index) h.queue.reds) named in
    let greens : index_in h.queue.green_cut p ≡ index_in old.queue.green_cut p = ap (λ c. index_in c p) (recovered-rests start disk all is).1.green in
    let counts = above-rises p n h.queue.reds made h.queue.green_cut up (rising-green start h (all ++ grown.more) grown.is) grown.is.contiguous.reds (omega arith) in
    record {
      id = named;
      run = ap (λ xs. run_on made (names_of xs)) list
          ∙ above-runs p n h.queue.reds made h.queue.green_cut up (rising-green start h (all ++ grown.more) grown.is) grown.is.contiguous.reds (omega arith);
      counted = ap (λ xs. index_in (cut_behind made (names_of xs)) p) list ∙ counts ∙ omega arith;
      others = λ q apart. ap (λ xs. index_in (cut_behind made (names_of xs)) q) list ∙ above-others p n h.queue.reds made q up apart;
    }
