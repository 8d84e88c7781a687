-- Another yellow list: the flags of the old one are taken off, and those of the new one are put on.
use Rattle.std.proofs.Common.{◌≡◌, ℕ, suc, ◌+◌, ◌-◌, ◌<◌, ◌≢◌, List, [], ◌∷◌, ◌++◌, length, fold, filter, Bool, true, false, refl, sym, ap, ◌∙◌, arith, inl, inr, append_assoc}
use Rattle.std.proofs.lemmas.Bool.{cases_eq, cases_lt}
use Rattle.cg_base.specs.declared.action_id.ActionId.{ActionId}
use Rattle.cg_base.specs.Sets.{IsId}
use Rattle.cg_base.specs.Cuts.{index_in}
use Rattle.cg_queue.specs.declared.red.Red.{Red}
use Rattle.cg_queue.specs.Lanes.{marked_at}
use Rattle.cg_queue.specs.Body.{Parts, seen, all_reds, actions_in, is_above, Stretch, Flagged, AreKnown, IsSound, lane_of, flag_name, renamed}
use Rattle.cg_queue.proofs.RowLemmas.{with_lane-same, with_lane-other, same_length, append-nothing}
use Rattle.cg_queue.specs.Distinct.{is_distinct}
use Rattle.cg_queue.specs.MarkLaws.{is_above-true}
use Rattle.cg_queue.proofs.CutRises.{is_above-false}
use Rattle.cg_queue.proofs.StretchLemmas.{Stretch-marked, actions_in-marked}
use Rattle.cg_queue.proofs.FlagLemmas.{OnlyFlagged, OnlyFlagged-from, OnlyFlagged-others, OnlyFlagged-unmarked, Flagged-none, Flagged-others, Flagged-marked}
use Rattle.cg_queue.proofs.RedLemmas.{IsNamed, is_named, all_reds-same}
use Rattle.cg_queue.proofs.Soundness.{low_of, stretches_of, has_lane}
use Rattle.cg_queue.specs.Answers.{AreReds}

module _ (cut : List ActionId) where
  abbrev pub low_at : ℕ → ℕ
  low_at k = suc (index_in cut (suc k))

  -- a row whose flags alone have changed
  pub record IsLike (before after : List Red) (k : ℕ) : Type 0 where
    pub stretch : Stretch (suc k) (low_at k) after
    pub same : actions_in after ≡ actions_in before

  -- the row of each place after one name
  flag_row : (flag : Bool) (lanes : ℕ → List Red) (id : ActionId) (k : ℕ) → is_above cut id ≡ true → k ≡ lane_of id
      → flag_name cut flag lanes id k ≡ marked_at (lanes k) (id.index - suc (index_in cut id.creator)) flag
  flag_row flag lanes id k above same = rw above
      (with_lane-same lanes (lane_of id) (marked_at (lanes (lane_of id)) (id.index - suc (index_in cut id.creator)) flag) k same
      ∙ ap (λ j. marked_at (lanes j) (id.index - suc (index_in cut id.creator)) flag) (sym same))

  flag_other : (flag : Bool) (lanes : ℕ → List Red) (id : ActionId) (k : ℕ) → is_above cut id ≡ true → k ≢ lane_of id → flag_name cut flag lanes id k ≡ lanes k
  flag_other flag lanes id k above apart = rw above (with_lane-other lanes (lane_of id) (marked_at (lanes (lane_of id)) (id.index - suc (index_in cut id.creator)) flag) k apart)

  flag_none : (flag : Bool) (lanes : ℕ → List Red) (id : ActionId) (k : ℕ) → is_above cut id ≡ false → flag_name cut flag lanes id k ≡ lanes k
  flag_none flag lanes id k below = rw below

  -- ---- flags are taken off

  pub record IsOff (before after : List Red) (yellow : List ActionId) (k : ℕ) : Type 0 where
    pub like : IsLike before after k
    pub only : OnlyFlagged yellow after

  off-one : (start lanes : ℕ → List Red) (id : ActionId) (ids : List ActionId) → IsId id.creator → ((k : ℕ) → k < 32 → IsOff (start k) (lanes k) (id ∷ ids) k)
      → (k : ℕ) → k < 32 → IsOff (start k) (flag_name cut false lanes id k) ids k
  off-one start lanes id ids is_id off k lt =
      let now = off k lt in
      let own = has_lane id is_id in
      elim (cases_lt (index_in cut id.creator) id.index) [
        | inl above ↦
            let is_it = is_above-true cut id above in
            elim (cases_eq k (lane_of id)) [
              | inl same ↦
                  let i = id.index - suc (index_in cut id.creator) in
                  let creator : suc k ≡ id.creator = ap suc same ∙ own.creator in
                  let low : index_in cut (suc k) ≡ index_in cut id.creator = ap (index_in cut) creator in
                  rw (flag_row false lanes id k is_it same) (record {
                    like = record { stretch = Stretch-marked (suc k) (low_at k) (lanes k) i false now.like.stretch; same = actions_in-marked (lanes k) i false ∙ now.like.same };
                    only = OnlyFlagged-unmarked ids id (suc k) (low_at k) (lanes k) i now.like.stretch (omega arith) now.only;
                  })
              | inr apart ↦
                  rw (flag_other false lanes id k is_it apart) (record {
                    like = now.like;
                    only = OnlyFlagged-others ids id (suc k) (low_at k) (lanes k) now.like.stretch (inl (λ e. apart (omega (arith, own.creator, e)))) now.only;
                  })
            ]
        | inr le ↦
            rw (flag_none false lanes id k (is_above-false cut id le)) (record {
              like = now.like;
              only = OnlyFlagged-others ids id (suc k) (low_at k) (lanes k) now.like.stretch (elim (cases_eq (suc k) id.creator) [
                | inl same ↦ inr (inl (let low : index_in cut (suc k) ≡ index_in cut id.creator = ap (index_in cut) same in omega arith))
                | inr apart ↦ inl apart
              ]) now.only;
            })
      ]

  -- each name is that of a replica's action
  abbrev pub AreNames : List ActionId → Type 0
  AreNames [] = Unit {0}
  AreNames (id ∷ ids) = IsId id.creator × AreNames ids

  pub off-all : (start lanes : ℕ → List Red) (ids : List ActionId) → AreNames ids → ((k : ℕ) → k < 32 → IsOff (start k) (lanes k) ids k)
      → (k : ℕ) → k < 32 → IsOff (start k) (fold (flag_name cut false) lanes ids k) [] k
  off-all start lanes [] are off k lt = off k lt
  off-all start lanes (id ∷ ids) are off k lt = off-all start (flag_name cut false lanes id) ids are.1 (off-one start lanes id ids are.0 off) k lt

  -- ---- flags are put on

  pub record IsOn (before after : List Red) (yellow : List ActionId) (k : ℕ) : Type 0 where
    pub like : IsLike before after k
    pub flags : Flagged yellow after

  on-one : (start lanes : ℕ → List Red) (done : List ActionId) (id : ActionId) → IsNamed start low_at id → ((k : ℕ) → k < 32 → IsOn (start k) (lanes k) done k)
      → (k : ℕ) → k < 32 → IsOn (start k) (flag_name cut true lanes id k) (done ++ id ∷ []) k
  on-one start lanes done id named on k lt =
      let now = on k lt in
      let slot = named.slot in
      let creator = named.creator in
      let low : index_in cut id.creator ≡ index_in cut (suc slot) = ap (index_in cut) creator in
      let from = named.above in
      let is_it = is_above-true cut id (omega arith) in
      let own : lane_of id ≡ slot = omega arith in
      elim (cases_eq k (lane_of id)) [
        | inl same ↦
            let i = id.index - suc (index_in cut id.creator) in
            let here : k ≡ slot = same ∙ own in
            let low_here : low_at k ≡ low_at slot = ap low_at here in
            let inside : id.index < low_at k + length (start k) = rw (← here) at named.below in
            let long : length (lanes k) ≡ length (start k) = same_length (λ r. r.action) (lanes k) (start k) now.like.same in
            rw (flag_row true lanes id k is_it same) (record {
              like = record { stretch = Stretch-marked (suc k) (low_at k) (lanes k) i true now.like.stretch; same = actions_in-marked (lanes k) i true ∙ now.like.same };
              flags = Flagged-marked done id (suc k) (low_at k) (lanes k) i now.like.stretch (omega arith) (creator ∙ ap suc (sym here)) (omega arith) now.flags;
            })
        | inr apart ↦
            rw (flag_other true lanes id k is_it apart) (record {
              like = now.like;
              flags = Flagged-others done id (suc k) (low_at k) (lanes k) now.like.stretch (inl (λ e. apart (omega (arith, own, creator, e)))) now.flags;
            })
      ]

  abbrev pub AreNamed : (ℕ → List Red) → List ActionId → Type 0
  AreNamed lanes [] = Unit {0}
  AreNamed lanes (id ∷ ids) = IsNamed lanes low_at id × AreNamed lanes ids

  pub on-all : (start lanes : ℕ → List Red) (done ids : List ActionId) → AreNamed start ids → ((k : ℕ) → k < 32 → IsOn (start k) (lanes k) done k)
      → (k : ℕ) → k < 32 → IsOn (start k) (fold (flag_name cut true) lanes ids k) (done ++ ids) k
  on-all start lanes done [] are on k lt = rw (append-nothing done) (on k lt)
  on-all start lanes done (id ∷ ids) are on k lt =
      rw (append_assoc done (id ∷ []) ids) at (on-all start (flag_name cut true lanes id) (done ++ id ∷ []) ids are.1 (on-one start lanes done id are.0 on) k lt)

-- ---- a body with another yellow list

named-reds : (b : Parts) (list : List ActionId) → IsSound b → AreReds (seen b) list → AreNamed b.green_cut b.reds list
named-reds b [] sound are = tt
named-reds b (id ∷ list) sound are = (is_named b.reds (low_of b) (stretches_of b sound) id are.0, named-reds b list sound are.1)

known-names : (cut ids : List ActionId) → AreKnown cut ids → AreNames cut ids
known-names cut [] known = tt
known-names cut (id ∷ ids) known = (known.1, known-names cut ids known.2)

named-known : (b : Parts) (list : List ActionId) → IsSound b → AreNamed b.green_cut b.reds list → AreKnown b.red_cut list
named-known b [] sound are = tt
named-known b (id ∷ list) sound are =
    let named = are.0 in
    let creator = named.creator in
    let within = named.within in
    let lane = sound.lanes named.slot named.within in
    let last = lane.last in
    let below = named.below in
    let red : index_in b.red_cut id.creator ≡ index_in b.red_cut (suc named.slot) = ap (index_in b.red_cut) creator in
    (omega arith, (omega arith, omega arith), named-known b list sound are.1)

module _ (b : Parts) (list : List ActionId) (sound : IsSound b) (are : AreReds (seen b) list) (distinct : is_distinct list ≡ true) where
  rows-after : (k : ℕ) → k < 32 → IsOn b.green_cut (b.reds k) ((renamed b list).reds k) list k
  rows-after k lt =
      let cut = b.green_cut in
      let off = off-all cut b.reds b.reds b.yellow (known-names b.red_cut b.yellow sound.yellow) (λ j under. record {
        like = record { stretch = stretches_of b sound j under; same = refl };
        only = OnlyFlagged-from b.yellow (b.reds j) ((sound.lanes j under).flags);
      }) in
      on-all cut b.reds (fold (flag_name cut false) b.reds b.yellow) [] list (named-reds b list sound are) (λ j under. record {
        like = (off j under).like;
        flags = Flagged-none (fold (flag_name cut false) b.reds b.yellow j) ((off j under).only);
      }) k lt

  pub renamed-sound : IsSound (renamed b list)
  renamed-sound = record {
    green = sound.green;
    red = sound.red;
    count = sound.count;
    lanes = λ k lt. (let lane = sound.lanes k lt in let row = rows-after k lt in record {
      first = lane.first;
      greens = lane.greens;
      positions = lane.positions;
      reds = row.like.stretch;
      last = ap (λ n. index_in b.green_cut (suc k) + n) (same_length (λ r. r.action) ((renamed b list).reds k) (b.reds k) row.like.same) ∙ lane.last;
      flags = row.flags;
    });
    yellow = named-known b list sound (named-reds b list sound are);
    distinct = distinct;
  }

  pub renamed-reds : all_reds ((renamed b list).reds) ≡ all_reds b.reds
  renamed-reds = all_reds-same b.reds ((renamed b list).reds) (λ k lt. (rows-after k lt).like.same)

  -- all names of reds are behind the green cut
  pub renamed-names : filter (is_above b.green_cut) list ≡ list
  renamed-names = all_above list (named-reds b list sound are)
    where
      all_above : (ids : List ActionId) → AreNamed b.green_cut b.reds ids → filter (is_above b.green_cut) ids ≡ ids
      all_above [] are_named = refl
      all_above (id ∷ ids) are_named =
          let named = are_named.0 in
          let low : index_in b.green_cut id.creator ≡ index_in b.green_cut (suc named.slot) = ap (index_in b.green_cut) named.creator in
          let from = named.above in
          rw (is_above-true b.green_cut id (omega arith)) (ap (λ xs. id ∷ xs) (all_above ids are_named.1))

  pub renamed-view : seen (renamed b list) ≡ record (seen b) { yellow = list }
  renamed-view = rw (renamed-reds, renamed-names)
