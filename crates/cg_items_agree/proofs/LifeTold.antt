-- A follower as it is kept, against what the lines told of it: its own events keep the two together, and show the lines
-- that are due.
use Rattle.std.proofs.Common.{◌≡◌, ℕ, zero, suc, ◌+◌, ◌-◌, ◌≤◌, Bool, true, false, ◌&&◌, List, [], ◌∷◌, length, Option, Some, None, refl, sym, ap, ◌∙◌, subst, inl, inr, arith, eq-eqb, ne_eqb, eqb-true, if◌then◌else◌, option_map, nat_le}
use Rattle.std.specs.Prelude.{◌==◌}
use Rattle.std.specs.Option.{option_map_or}
use Rattle.std.proofs.lemmas.Bool.{cases_Bool, cond-true, cond-false, and_right, eqb-false}
use Rattle.cg_action.specs.declared.action.Action.{Action}
use Rattle.cg_action.specs.declared.answer.Answer.{Answer}
use Rattle.cg_action.specs.declared.query.Query.{Query}
use Rattle.cg_disk_records.specs.Crash.{Strike, StopWith, is_committed}
use Rattle.cg_follow.specs.Followed.{Followed, fed}
use Rattle.cg_follow.specs.declared.event.FollowEvent.{FollowEvent}
use Rattle.cg_follow.specs.declared.event.FollowEvent.TheVariants.{Follower as Make, Feed, Stop, Recover, Weak}
use Rattle.cg_follower_list.specs.declared.follow_line.FollowLine.{FollowLine}
use Rattle.cg_follower_list.specs.declared.follow_line.FollowLine.TheVariants.{At, Down, Weak as Answers}
use Rattle.cg_follower_list.specs.Life.{Life, Up, Fallen, Follower}
use Rattle.cg_follower_list.specs.Followers.{changed_line, last_shown, after_feed, after_calls}
use Rattle.cg_items.specs.FollowersAgree.{armed_behind, later_strike, strikes, leaves_feed}
use Rattle.cg_items_agree.proofs.FollowersTold.{Told, told_behind, told-at, told-down}

-- ---- lines that are due

abbrev pub come_due : Told → ℕ → ℕ → List FollowLine
come_due t f n = if option_map_or (λ up. up) t.up false && (n == t.cursor) then [] else At f n ∷ []

-- a feed takes so many
abbrev pub feed_due : Told → ℕ → ℕ → List FollowLine
feed_due t f k = if k == 0 then [] else if strikes t.armed then Down f ∷ [] else At f (t.cursor + k) ∷ []

abbrev pub feed_left : Told → ℕ → ℕ
feed_left t k = if leaves_feed t.armed then t.cursor + k else t.cursor

-- a follower that stands so from now on
abbrev pub anew : ℕ → Option Follower → Life → Follower
anew f o life = record { id = f; shown = last_shown o life; life = life }

-- ---- what is kept

-- what the first actions of the order make, and how long the order is
module _ (at : ℕ → Followed) (len : ℕ) where
  pub record IsUpAs (t : Told) (now : Followed) (armed : Option Strike) : Type 0 where
    pub up : t.up ≡ Some true
    pub of_order : now ≡ at now.cursor
    pub cursor : now.cursor ≡ t.cursor
    pub stop : armed ≡ t.armed
    pub within : now.cursor ≤ len

  pub record IsFallenAs (t : Told) (left : Followed) : Type 0 where
    pub up : t.up ≡ Some false
    pub of_order : left ≡ at left.cursor
    pub cursor : left.cursor ≡ t.left
    pub further : t.cursor ≤ left.cursor
    pub within : left.cursor ≤ len

  abbrev pub LifeAs : Told → Life → Type 0
  LifeAs t (Up now armed) = IsUpAs t now armed
  LifeAs t (Fallen left) = IsFallenAs t left

  abbrev pub KeptAs : Told → Option Follower → Type 0
  KeptAs t None = (t.cursor ≡ 0) × (t.up ≡ None)
  KeptAs t (Some x) = (x.shown ≡ t.cursor) × LifeAs t x.life

  pub record Goes (t u : Told) (o : Option Follower) : Type 0 where
    pub kept : KeptAs u o
    pub grows : t.cursor ≤ u.cursor

  module _ (f : ℕ) (t : Told) (event : Option FollowEvent) (left : ℕ) (o : Option Follower) where
    -- what the follower becomes shows these lines, and goes on with what was told
    pub record IsDone (due : List FollowLine) (life : Life) : Type 0 where
      pub lines : changed_line f (option_map (λ x. x.life) o) life ≡ due
      pub goes : Goes t (told_behind f t event (changed_line f (option_map (λ x. x.life) o) life) left)
          (Some (anew f o life))

    done-told : (due : List FollowLine) (life : Life) (lines : List FollowLine) →
        changed_line f (option_map (λ x. x.life) o) life ≡ lines → due ≡ lines →
        Goes t (told_behind f t event lines left) (Some (anew f o life)) → IsDone due life
    done-told due life lines is same goes = record {
      lines = is ∙ sym same;
      goes = subst (λ (ls : List FollowLine). Goes t (told_behind f t event ls left) (Some (anew f o life)))
          (sym is) goes;
    }

    came-shown : (now : Followed) (armed : Option Strike) → now ≡ at now.cursor → t.cursor ≤ now.cursor →
        now.cursor ≤ len → armed ≡ armed_behind event f true t.armed →
        Goes t (told_behind f t event (At f now.cursor ∷ []) left) (Some (anew f o (Up now armed)))
    came-shown now armed is more within stop =
        subst (λ (u : Told). Goes t u (Some (anew f o (Up now armed)))) (sym (told-at f t event left now.cursor))
        (record {
          kept = (refl, record { up = refl; of_order = is; cursor = refl; stop = stop; within = within });
          grows = more;
        })

    came-quiet : (now : Followed) (armed : Option Strike) → t.up ≡ Some true → now ≡ at now.cursor →
        now.cursor ≡ t.cursor → now.cursor ≤ len → armed ≡ armed_behind event f false t.armed →
        Goes t (told_behind f t event [] left) (Some (anew f o (Up now armed)))
    came-quiet now armed up is same within stop =
        record {
          kept = (same, record { up = up; of_order = is; cursor = same; stop = stop; within = within });
          grows = omega arith;
        }

    fell : (fallen : Followed) → last_shown o (Fallen fallen) ≡ t.cursor → fallen ≡ at fallen.cursor →
        fallen.cursor ≡ left → t.cursor ≤ fallen.cursor → fallen.cursor ≤ len →
        Goes t (told_behind f t event (Down f ∷ []) left) (Some (anew f o (Fallen fallen)))
    fell fallen shown is same more within =
        subst (λ (u : Told). Goes t u (Some (anew f o (Fallen fallen)))) (sym (told-down f t event left))
        (record {
          kept = (shown, record { up = refl; of_order = is; cursor = same; further = more; within = within });
          grows = omega arith;
        })

  -- ---- a follower is made

  module _ (f p left : ℕ) (t : Told) (made : Followed) (is : made ≡ at made.cursor) (more : t.cursor ≤ made.cursor)
      (within : made.cursor ≤ len) where
    abbrev event : Option FollowEvent
    event = Some (Make f p)

    new-disk : (has_fed : Bool) → None ≡ armed_behind event f has_fed t.armed
    new-disk has_fed = sym (cond-true (f == f) None t.armed (eq-eqb f f refl))

    -- it wasn't up
    due-down : option_map_or (λ up. up) t.up false ≡ false → come_due t f made.cursor ≡ At f made.cursor ∷ []
    due-down down = ap (λ b. if b && (made.cursor == t.cursor) then [] else At f made.cursor ∷ []) down

    make-life : (id shown : ℕ) (life : Life) → LifeAs t life →
        (let o : Option Follower = Some (record { id = id; shown = shown; life = life }) in
        IsDone f t event left o (come_due t f made.cursor) (Up made None))
    make-life id shown (Fallen fallen) told =
        let o : Option Follower = Some (record { id = id; shown = shown; life = Fallen fallen }) in
        done-told f t event left o (come_due t f made.cursor) (Up made None) (At f made.cursor ∷ []) refl
        (due-down (ap (λ u. option_map_or (λ up. up) u false) told.up))
        (came-shown f t event left o made None is more within (new-disk true))
    make-life id shown (Up now armed) told =
        let o : Option Follower = Some (record { id = id; shown = shown; life = Up now armed }) in
        let due : come_due t f made.cursor ≡ (if made.cursor == t.cursor then [] else At f made.cursor ∷ []) =
        ap (λ u. if option_map_or (λ up. up) u false && (made.cursor == t.cursor) then [] else At f made.cursor ∷ [])
        told.up in
        elim (cases_Bool (now.cursor == made.cursor)) [
          | inl same ↦
              let at_it : made.cursor ≡ t.cursor = sym (eqb-true now.cursor made.cursor same) ∙ told.cursor in
              done-told f t event left o (come_due t f made.cursor) (Up made None) []
              (cond-true (now.cursor == made.cursor) [] (At f made.cursor ∷ []) same)
              (due ∙ cond-true (made.cursor == t.cursor) [] (At f made.cursor ∷ []) (eq-eqb made.cursor t.cursor at_it))
              (came-quiet f t event left o made None told.up is at_it within (new-disk false))
          | inr other ↦
              let apart : made.cursor ≡ t.cursor →
              ⊥ = (λ e. eqb-false now.cursor made.cursor other (told.cursor ∙ sym e)) in
              done-told f t event left o (come_due t f made.cursor) (Up made None) (At f made.cursor ∷ [])
              (cond-false (now.cursor == made.cursor) [] (At f made.cursor ∷ []) other)
              (due ∙ cond-false (made.cursor == t.cursor) [] (At f made.cursor ∷ [])
              (ne_eqb made.cursor t.cursor apart))
              (came-shown f t event left o made None is more within (new-disk true))
        ]

    pub make-done : (o : Option Follower) → KeptAs t o →
        IsDone f t event left o (come_due t f made.cursor) (Up made None)
    make-done None told =
        done-told f t event left None (come_due t f made.cursor) (Up made None) (At f made.cursor ∷ []) refl
        (due-down (ap (λ u. option_map_or (λ up. up) u false) told.1))
        (came-shown f t event left None made None is more within (new-disk true))
    make-done (Some x) told = make-life x.id x.shown x.life told.1

  -- ---- a follower is fed

  module _ (f p count k : ℕ) (t : Told) (id : ℕ) (now : Followed) (armed : Option Strike) (told : IsUpAs t now armed)
    where
      abbrev feeds : Option FollowEvent
      feeds = Some (Feed p f count)

      abbrev fed_one : Option Follower
      fed_one = Some (record { id = id; shown = t.cursor; life = Up now armed })

      fed-quiet : (armed : Option Strike) → armed_behind feeds f false armed ≡ armed
      fed-quiet armed = cond-false ((f == f) && false) (option_map later_strike armed) armed
          (and_right (f == f) false refl)

      fed-shown : (armed : Option Strike) → armed_behind feeds f true armed ≡ option_map later_strike armed
      fed-shown armed = cond-true ((f == f) && true) (option_map later_strike armed) armed
          (ap (λ b. b && true) (eq-eqb f f refl))

      feed-none : k ≡ 0 → IsDone f t feeds (feed_left t k) fed_one (feed_due t f k) (Up now armed)
      feed-none none =
          done-told f t feeds (feed_left t k) fed_one (feed_due t f k) (Up now armed) []
          (cond-true (now.cursor == now.cursor) [] (At f now.cursor ∷ []) (eq-eqb now.cursor now.cursor refl))
          (cond-true (k == 0) [] _ (eq-eqb k 0 none))
          (came-quiet f t feeds (feed_left t k) fed_one now armed told.up told.of_order told.cursor told.within
          (told.stop ∙ sym (fed-quiet t.armed)))

      module _ (after : Followed) (some : (k ≡ 0) → ⊥) (reach : after.cursor ≡ t.cursor + k)
          (is : after ≡ at after.cursor) (within : after.cursor ≤ len) where
        due-some : feed_due t f k ≡ (if strikes armed then Down f ∷ [] else At f (t.cursor + k) ∷ [])
        due-some =
            cond-false (k == 0) [] (if strikes t.armed then Down f ∷ [] else At f (t.cursor + k) ∷ []) (ne_eqb k 0 some)
            ∙ ap (λ s. if strikes s then Down f ∷ [] else At f (t.cursor + k) ∷ []) (sym told.stop)

        changes : (now.cursor == after.cursor) ≡ false
        changes = ne_eqb now.cursor after.cursor (λ e. some (let same = told.cursor in let there = reach in
            let both : now.cursor ≡ after.cursor = e in omega arith))

        -- none of its four calls is struck
        feed-shown : strikes armed ≡ false → (armed_after : Option Strike) →
            armed_after ≡ option_map later_strike armed → IsDone f t feeds (feed_left t k) fed_one (feed_due t f k)
            (Up after armed_after)
        feed-shown calm armed_after later =
            done-told f t feeds (feed_left t k) fed_one (feed_due t f k) (Up after armed_after) (At f after.cursor ∷ [])
            (cond-false (now.cursor == after.cursor) [] (At f after.cursor ∷ []) changes)
            (due-some ∙ cond-false (strikes armed) (Down f ∷ []) (At f (t.cursor + k) ∷ []) calm
            ∙ ap (λ n. At f n ∷ []) (sym reach))
            (came-shown f t feeds (feed_left t k) fed_one after armed_after is (let there = reach in omega arith) within
            (later ∙ ap (option_map later_strike) told.stop ∙ sym (fed-shown t.armed)))

        -- one is, and this is left
        feed-struck : strikes armed ≡ true → (fallen : Followed) → fallen ≡ at fallen.cursor →
            fallen.cursor ≡ feed_left t k → t.cursor ≤ fallen.cursor → fallen.cursor ≤ len →
            IsDone f t feeds (feed_left t k) fed_one (feed_due t f k) (Fallen fallen)
        feed-struck struck fallen of_order left more inside =
            done-told f t feeds (feed_left t k) fed_one (feed_due t f k) (Fallen fallen) (Down f ∷ []) refl
            (due-some ∙ cond-true (strikes armed) (Down f ∷ []) (At f (t.cursor + k) ∷ []) struck)
            (fell f t feeds (feed_left t k) fed_one fallen refl of_order left more inside)

        left-fed : leaves_feed armed ≡ true → after.cursor ≡ feed_left t k
        left-fed leaves = reach ∙ sym (cond-true (leaves_feed t.armed) (t.cursor + k) t.cursor
            (ap leaves_feed (sym told.stop) ∙ leaves))

        left-unfed : leaves_feed armed ≡ false → now.cursor ≡ feed_left t k
        left-unfed leaves = told.cursor
            ∙ sym (cond-false (leaves_feed t.armed) (t.cursor + k) t.cursor (ap leaves_feed (sym told.stop) ∙ leaves))

        feed-under : (stop : Option Strike) → stop ≡ armed → IsDone f t feeds (feed_left t k) fed_one (feed_due t f k)
            (after_calls stop now after)
        feed-under None e = feed-shown (ap strikes (sym e)) None (ap (option_map later_strike) e)
        feed-under (Some s) e =
            let life : Life = after_calls (Some s) now after in
            let Done : Life → Type 0 = (λ (l : Life). IsDone f t feeds (feed_left t k) fed_one (feed_due t f k) l) in
            let struck : Life = Fallen (if is_committed s then after else now) in
            let passed : Life = Up after (Some (record s { call = s.call - 4 })) in
            elim (cases_Bool (nat_le s.call 4)) [
              | inl early ↦ elim (cases_Bool (is_committed s)) [
                | inl committed ↦
                    subst Done (sym (cond-true (nat_le s.call 4) struck passed early
                    ∙ ap Fallen (cond-true (is_committed s) after now committed)))
                    (feed-struck (ap strikes (sym e) ∙ early) after is (left-fed (ap leaves_feed (sym e) ∙ committed))
                    (let there = reach in omega arith) within)
                | inr away ↦
                    subst Done (sym (cond-true (nat_le s.call 4) struck passed early
                    ∙ ap Fallen (cond-false (is_committed s) after now away)))
                    (feed-struck (ap strikes (sym e) ∙ early) now told.of_order (left-unfed (ap leaves_feed (sym e)
                    ∙ away)) (let same = told.cursor in omega arith) told.within)
              ]
              | inr late ↦
                  subst Done (sym (cond-false (nat_le s.call 4) struck passed late))
                  (feed-shown (ap strikes (sym e) ∙ late) (Some (record s { call = s.call - 4 }))
                  (ap (option_map later_strike) e))
            ]

      pub feed-done : (next : List Action) → length next ≡ k → fed now next ≡ at (t.cursor + k) → t.cursor + k ≤ len →
          IsDone f t feeds (feed_left t k) fed_one (feed_due t f k) (after_feed next armed now)
      feed-done [] long is within = feed-none (sym long)
      feed-done (a ∷ next) long is within =
          let after : Followed = fed now (a ∷ next) in
          let reach : after.cursor ≡ t.cursor + k = (let same = told.cursor in omega arith) in
          let some : (k ≡ 0) → ⊥ = (λ e. (let none : k ≡ 0 = e in let many : suc (length next) ≡ k = long in
          omega arith)) in
          feed-under after some reach (is ∙ ap at (sym reach)) (omega arith) armed refl

  -- ---- a stop, and a recovery

  module _ (f : ℕ) (t : Told) (id : ℕ) where
    abbrev one : Life → Option Follower
    one life = Some (record { id = id; shown = t.cursor; life = life })

    pub stop-now : (fill : List ℕ) (now : Followed) (armed : Option Strike) → IsUpAs t now armed →
        IsDone f t (Some (Stop f zero fill)) t.cursor (one (Up now armed)) (Down f ∷ []) (Fallen now)
    stop-now fill now armed told =
        done-told f t (Some (Stop f zero fill)) t.cursor (one (Up now armed)) (Down f ∷ []) (Fallen now)
        (Down f ∷ []) refl refl
        (fell f t (Some (Stop f zero fill)) t.cursor (one (Up now armed)) now refl told.of_order told.cursor
        (let same = told.cursor in omega arith) told.within)

    pub stop-later : (n : ℕ) (fill : List ℕ) (now : Followed) (armed : Option Strike) → IsUpAs t now armed →
        IsDone f t (Some (Stop f (suc n) fill)) t.cursor (one (Up now armed)) []
        (Up now (Some (record { call = suc n; fault = StopWith fill })))
    stop-later n fill now armed told =
        let stop : Option Strike = Some (record { call = suc n; fault = StopWith fill }) in
        done-told f t (Some (Stop f (suc n) fill)) t.cursor (one (Up now armed)) [] (Up now stop) []
        (cond-true (now.cursor == now.cursor) [] (At f now.cursor ∷ []) (eq-eqb now.cursor now.cursor refl)) refl
        (came-quiet f t (Some (Stop f (suc n) fill)) t.cursor (one (Up now armed)) now stop told.up told.of_order
        told.cursor told.within (sym (cond-true (f == f) stop t.armed (eq-eqb f f refl))))

    pub recover-done : (fallen : Followed) → IsFallenAs t fallen →
        IsDone f t (Some (Recover f)) t.cursor (one (Fallen fallen)) (At f t.left ∷ []) (Up fallen None)
    recover-done fallen told =
        done-told f t (Some (Recover f)) t.cursor (one (Fallen fallen)) (At f t.left ∷ []) (Up fallen None)
        (At f fallen.cursor ∷ []) refl (ap (λ n. At f n ∷ []) (sym told.cursor))
        (came-shown f t (Some (Recover f)) t.cursor (one (Fallen fallen)) fallen None told.of_order told.further
        told.within (sym (cond-true (f == f) None t.armed (eq-eqb f f refl))))

  -- a follower that is asked stays as it is
  pub asked-goes : (f : ℕ) (t : Told) (query : Query) (a : Answer) (left : ℕ) (x : Follower) → KeptAs t (Some x) →
      Goes t (told_behind f t (Some (Weak f query)) (Answers f a ∷ []) left) (Some x)
  asked-goes f t query a left x told = record { kept = told; grows = omega arith }
