-- From what stands on the disk, the actions newly known and the names newly green lead to what a turn holds, values apart.
use Rattle.std.proofs.Common.{◌⊎◌, ◌≡◌, suc, ◌<◌, ◌≤◌, List, [], ◌∷◌, ◌++◌, max, find, cond, true, false, Option, Some, None, refl, sym, ap, ◌∙◌, subst, arith, inl, inr, nat_lt, nat_le, append-nil}
use Rattle.std.specs.Prelude.{option_and_then}
use Rattle.std.proofs.lemmas.Bool.{or_parts, cases_order, cases_Bool, lt-ltb, le-ltb, le-leb, and_from}
use Rattle.std.proofs.lemmas.List.{append_assoc}
use Rattle.std.proofs.lemmas.List.Sums.{fold-append}
use Rattle.cg_base.specs.declared.action_id.ActionId.{ActionId}
use Rattle.cg_base.specs.Ids.{same_id, id_before, has_name}
use Rattle.cg_base.specs.Cuts.{index_in, raise}
use Rattle.cg_base.specs.IdLaws.{same_id-is, same_id-back, same_id-self}
use Rattle.cg_action.specs.declared.action.Action.{Action}
use Rattle.cg_queue.specs.Queue.{names_of, with_red, without_action, placed_red, action_of}
use Rattle.cg_base.specs.Lists.{Each}
use Rattle.cg_client.specs.Replica.{Held}
use Rattle.cg_client.specs.Turn.{Turn}
use Rattle.cg_client.specs.Marks.{is_unmade, after_first, with_green, unknown_in, newly_known, place_green}
use Rattle.cg_client.specs.Summary.{own_to_red}
use Rattle.cg_disk_records.specs.Stored.{Stored, stored_of}
use Rattle.cg_disk_records.specs.Following.{fits_known, know, green_by_name, all_of}
use Rattle.cg_disk_records.specs.Holds.{run_on, cut_behind, Holds}
use Rattle.cg_model.specs.Recorded.{Named}
use Rattle.cg_disk_records.specs.CutRaiseLaws.{rising-raise, index-same, raise-below}
use Rattle.cg_disk_records.specs.RunMarkLaws.{run-names, names-new, run-head, run-rest}
use Rattle.cg_model.proofs.Rows.{find-red, IsRule}
use Rattle.cg_model.proofs.Knowing.{know-some, fits-own, fits-made, holds-placed, holds-rule}
use Rattle.cg_model.proofs.Commuting.{greened-to, known-before}
use Rattle.cg_disk_records.specs.HeldLaws.{after-here}
use Rattle.cg_disk_records.specs.HoldsMarkLaws.{known_by, own-same, rising-red, green-below, holds-known}
use Rattle.cg_disk_records.specs.KnownLaws.{fits-next, known_all, own-reddened, holds-own}
use Rattle.cg_knowledge.specs.Primary.{no_prim}

-- without the values that a record has at any time
abbrev pub bare : Held → Stored
bare h =
    let q = h.queue in
    record h { queue = record q { yellow = [] }; yellow_valid = false; prim = no_prim; attempt_index = 0; vulnerable = None }

pub record Led (s : Stored) (known : List Action) (green : List ActionId) (h : Held) : Type 0 where
  pub middle : Stored
  pub knows : all_of know (Some s) known ≡ Some middle
  pub holds : Holds middle
  pub end : Stored
  pub greens : all_of green_by_name (Some middle) green ≡ Some end
  pub alike : bare end ≡ bare (stored_of h)

pub led-begin : (s : Stored) (known : List Action) (h : Held) → all_of know (Some s) known ≡ Some (stored_of h) → Holds h → Led s known [] h
led-begin s known h ahead is = record {
  middle = stored_of h;
  knows = ahead;
  holds = record {
    rising = is.rising;
    greens = is.greens;
    count = is.count;
    red_cut = is.red_cut;
    reds = is.reds;
    by_name = is.by_name;
    own = is.own;
    mine = is.mine;
    yellow = is.yellow;
    members = is.members;
  };
  end = stored_of h;
  greens = refl;
  alike = refl;
}

-- ---- an action becomes known

pub led-known : (s : Stored) (known : List Action) (green : List ActionId) (h : Held) (a : Action) → fits_known h a ≡ true → Led s known green h →
    Led s (known ++ a ∷ []) green (known_by h a)
led-known s known green h a fits led =
    let fits_end : fits_known led.end a ≡ true = ap (λ (x : Stored). fits_known x a) led.alike ∙ fits in
    let before = known-before green led.middle led.end a led.holds led.greens fits_end in
    record {
      middle = known_by led.middle a;
      knows = fold-append (λ (now : Option Stored) (item : Action). option_and_then (λ x. know x item) now) (Some s) known (a ∷ [])
          ∙ ap (λ o. all_of know o (a ∷ [])) led.knows ∙ know-some led.middle a before.fits;
      holds = holds-known led.middle led.holds a (fits-next led.middle a before.fits);
      end = known_by led.end a;
      greens = before.green;
      alike = ap (λ (x : Stored). bare (known_by x a)) led.alike;
    }

pub led-known_all : (list : List Action) (s : Stored) (known : List Action) (green : List ActionId) (h : Held) → h.own ≡ list → run_on h.queue.red_cut (names_of list) ≡ true →
    Led s known green h → Led s (known ++ list) green (known_all h list)
led-known_all [] s known green h own run led = subst (λ k. Led s k green h) (sym (append-nil known)) led
led-known_all (a ∷ list) s known green h own run led =
    let next = run-head h.queue.red_cut a.id (names_of list) run in
    let one = led-known s known green h a (fits-own h a list own next) led in
    subst (λ k. Led s k green (known_all (known_by h a) list)) (append_assoc known (a ∷ []) list)
    (led-known_all list s (known ++ a ∷ []) green (known_by h a) (ap (λ xs. after_first xs a.id) own ∙ after-here a list a.id (same_id-self a.id))
    (run-rest h.queue.red_cut a.id (names_of list) run) one)

-- ---- an action becomes green

-- one that is known
pub led-green : (s : Stored) (known : List Action) (green : List ActionId) (h : Held) (a : Action) → action_of h.queue a.id ≡ Some a →
    a.id.index ≡ suc (index_in h.queue.green_cut a.id.creator) → Led s known green h → Led s known (green ++ a.id ∷ []) (with_green h a)
led-green s known green h a found next led =
    let there : action_of led.end.queue a.id ≡ Some a = ap (λ (x : Stored). action_of x.queue a.id) led.alike ∙ found in
    let at_next : a.id.index ≡ suc (index_in led.end.queue.green_cut a.id.creator) = next ∙ ap (λ (x : Stored). suc (index_in x.queue.green_cut a.id.creator)) (sym led.alike) in
    record {
      middle = led.middle;
      knows = led.knows;
      holds = led.holds;
      end = with_green led.end a;
      greens = fold-append (λ (now : Option Stored) (item : ActionId). option_and_then (λ x. green_by_name x item) now) (Some led.middle) green (a.id ∷ [])
          ∙ ap (λ o. all_of green_by_name o (a.id ∷ [])) led.greens ∙ greened-to led.end a.id a there at_next;
      alike = ap (λ (x : Stored). bare (with_green x a)) led.alike;
    }

find-new : (reds : List Action) (a : Action) → has_name (names_of reds) a.id ≡ false → find (λ b. same_id b.id a.id) (with_red reds a) ≡ Some a
find-new [] a new = rw (same_id-self a.id) refl
find-new (x ∷ reds) a new = elim (cases_Bool (id_before a.id x.id)) [
  | inl before ↦ rw (before, same_id-self a.id) refl
  | inr later ↦
      let news = or_parts (same_id a.id x.id) (has_name (names_of reds) a.id) new in
      rw (later, apart news.0) (find-new reds a news.1)
]
  where
    apart : same_id a.id x.id ≡ false → same_id x.id a.id ≡ false
    apart off = elim (cases_Bool (same_id x.id a.id)) [
      | inl same ↦ absurd (let clash : true ≡ false = sym (same_id-back x.id a.id same) ∙ off in cc)
      | inr other ↦ other
    ]

without-new : (reds : List Action) (a : Action) → without_action (with_red reds a) a.id ≡ without_action reds a.id
without-new [] a = rw (same_id-self a.id) refl
without-new (x ∷ reds) a = elim (cases_Bool (id_before a.id x.id)) [
  | inl before ↦ rw (before, same_id-self a.id) refl
  | inr later ↦ rw later (elim (cases_Bool (same_id x.id a.id)) [
    | inl taken ↦ rw taken (without-new reds a)
    | inr stays ↦ rw stays (ap (λ zs. x ∷ zs) (without-new reds a))
  ])
]

-- one that isn't known becomes known first
pub led-new : (s : Stored) (known : List Action) (green : List ActionId) (h : Held) (a : Action) → Holds h → is_unmade h a ≡ false →
    a.id.index ≡ suc (index_in h.queue.green_cut a.id.creator) → index_in h.queue.red_cut a.id.creator < a.id.index → Led s known green h →
    Led s (known ++ a ∷ []) (green ++ a.id ∷ []) (with_green h a)
led-new s known green h a is made next above led =
    let rc = h.queue.red_cut in
    let up : index_in h.queue.green_cut a.id.creator ≤ index_in rc a.id.creator = green-below h is a.id.creator in
    let next_red : a.id.index ≡ suc (index_in rc a.id.creator) = omega arith in
    let one = led-known s known green h a (fits-made h a is next_red made) led in
    let last : a.id.index ≡ suc (index_in (cut_behind h.queue.green_cut (names_of h.queue.reds)) a.id.creator) = next_red ∙ ap (λ c. suc (index_in c a.id.creator)) is.red_cut in
    let new : has_name (names_of h.queue.reds) a.id ≡ false = names-new h.queue.green_cut (names_of h.queue.reds) a.id is.rising is.reds last in
    let found : action_of (known_by h a).queue a.id ≡ Some a =
    find-red h.queue.greens (with_red h.queue.reds a) a.id (index_in h.queue.green_cut a.id.creator) (is.greens a.id.creator) (omega arith) ∙ find-new h.queue.reds a new in
    let two = led-green s (known ++ a ∷ []) green (known_by h a) a found next one in
    let reached : index_in (raise rc a.id) a.id.creator ≡ max (index_in rc a.id.creator) a.id.index = index-same rc a.id (rising-red h is) a.id.creator refl in
    let cut : raise (raise rc a.id) a.id ≡ raise rc a.id = raise-below (raise rc a.id) a.id (rising-raise rc a.id (rising-red h is)) (omega arith) in
    let own : after_first (after_first h.own a.id) a.id ≡ after_first h.own a.id =
    own-same (raise rc a.id) (after_first h.own a.id) a.id (holds-known h is a next_red).own (omega arith) in
    subst (Led s (known ++ a ∷ []) (green ++ a.id ∷ [])) (one-green cut (without-new h.queue.reds a) own) two
  where
    one-green : raise (raise h.queue.red_cut a.id) a.id ≡ raise h.queue.red_cut a.id → without_action (with_red h.queue.reds a) a.id ≡ without_action h.queue.reds a.id →
        after_first (after_first h.own a.id) a.id ≡ after_first h.own a.id → with_green (known_by h a) a ≡ with_green h a
    one-green e f g = λ i. let x = with_green h a in let q = x.queue in record x { queue = record q { red_cut = e i; reds = f i }; own = g i }

-- ---- a turn

-- a turn goes on from what stands on a disk
pub record Goes (book : ActionId → Action) (s : Stored) (unwritten : List Action) (t : Turn) : Type 0 where
  pub holds : Holds t.replica.held
  pub reds : Each (Named book) t.replica.held.queue.reds
  pub own : Each (Named book) t.replica.held.own
  pub made : t.made ≡ []
  pub led : Led s (unwritten ++ t.known) t.green t.replica.held

module _ (Fine : Action → Type 0) where
  each-with_red : (reds : List Action) (a : Action) → Fine a → Each Fine reds → Each Fine (with_red reds a)
  each-with_red [] a fine each = (fine, tt)
  each-with_red (x ∷ reds) a fine each = elim (cases_Bool (id_before a.id x.id)) [
    | inl before ↦ rw before (fine, each)
    | inr later ↦ rw later (each.0, each-with_red reds a fine each.1)
  ]

  each-without : (reds : List Action) (id : ActionId) → Each Fine reds → Each Fine (without_action reds id)
  each-without [] id each = tt
  each-without (x ∷ reds) id each = elim (cases_Bool (same_id x.id id)) [
    | inl taken ↦ rw taken (each-without reds id each.1)
    | inr stays ↦ rw stays (each.0, each-without reds id each.1)
  ]

  each-after : (own : List Action) (id : ActionId) → Each Fine own → Each Fine (after_first own id)
  each-after [] id each = tt
  each-after (x ∷ own) id each = elim (cases_Bool (same_id x.id id)) [
    | inl same ↦ rw same each.1
    | inr other ↦ rw other each
  ]

  each-known_all : (list : List Action) (h : Held) → Each Fine list → Each Fine h.queue.reds → Each Fine (known_all h list).queue.reds
  each-known_all [] h fine each = each
  each-known_all (a ∷ list) h fine each = each-known_all list (known_by h a) fine.1 (each-with_red h.queue.reds a fine.0 each)

  each-own : (list : List Action) (h : Held) → Each Fine h.own → Each Fine (known_all h list).own
  each-own [] h each = each
  each-own (a ∷ list) h each = each-own list (known_by h a) (each-after h.own a.id each)

-- the action found under the name of a red one of the book
found-booked : (book : ActionId → Action) (h : Held) (a : Action) → Holds h → Each (Named book) h.queue.reds → Named book a →
    a.id.index ≡ suc (index_in h.queue.green_cut a.id.creator) → a.id.index ≤ index_in h.queue.red_cut a.id.creator → action_of h.queue a.id ≡ Some a
found-booked book h a is reds fine next le =
    find-red h.queue.greens h.queue.reds a.id (index_in h.queue.green_cut a.id.creator) (is.greens a.id.creator) (omega arith)
    ∙ in-reds h.queue.reds reds (run-names h.queue.green_cut (names_of h.queue.reds) a.id is.rising is.reds
    ∙ and_from (nat_lt (index_in h.queue.green_cut a.id.creator) a.id.index) (nat_le a.id.index (index_in (cut_behind h.queue.green_cut (names_of h.queue.reds)) a.id.creator))
    (lt-ltb (index_in h.queue.green_cut a.id.creator) a.id.index (omega arith))
    (ap (λ c. nat_le a.id.index (index_in c a.id.creator)) (sym is.red_cut) ∙ le-leb a.id.index (index_in h.queue.red_cut a.id.creator) le))
  where
    in-reds : (list : List Action) → Each (Named book) list → has_name (names_of list) a.id ≡ true → find (λ b. same_id b.id a.id) list ≡ Some a
    in-reds [] each there = absurd (let clash : false ≡ true = there in cc)
    in-reds (x ∷ list) each there = elim (cases_Bool (same_id x.id a.id)) [
      | inl here ↦ rw here (ap Some (sym each.0 ∙ ap book (same_id-is x.id a.id here) ∙ fine))
      | inr other ↦ rw other (in-reds list each.1 (rest (cases_Bool (same_id a.id x.id)) other there))
    ]
      where
        rest : (same_id a.id x.id ≡ true) ⊎ (same_id a.id x.id ≡ false) → same_id x.id a.id ≡ false → has_name (names_of (x ∷ list)) a.id ≡ true → has_name (names_of list) a.id ≡ true
        rest (inl same) other there = absurd (let clash : true ≡ false = sym (same_id-back a.id x.id same) ∙ other in cc)
        rest (inr apart) other there = rw apart at there

module _ (book : ActionId → Action) (s : Stored) (unwritten : List Action) where
  goes-known : (t : Turn) (a : Action) → Named book a → a.id.index ≡ suc (index_in t.replica.held.queue.red_cut a.id.creator) → is_unmade t.replica.held a ≡ false →
      Goes book s unwritten t → Goes book s unwritten (newly_known t a (placed_red t.replica.held.queue a))
  goes-known t a fine next made goes =
      let h = t.replica.held in
      record {
        holds = holds-known h goes.holds a next;
        reds = each-with_red (Named book) h.queue.reds a fine goes.reds;
        own = each-after (Named book) h.own a.id goes.own;
        made = goes.made;
        led = subst (λ k. Led s k t.green (known_by h a)) (append_assoc unwritten t.known (a ∷ []))
            (led-known s (unwritten ++ t.known) t.green h a (fits-made h a goes.holds next made) goes.led);
      }

  goes-green : (t : Turn) (a : Action) → Named book a → a.id.index ≡ suc (index_in t.replica.held.queue.green_cut a.id.creator) → is_unmade t.replica.held a ≡ false →
      Goes book s unwritten t → Goes book s unwritten (place_green t a)
  unfolding place_green
  goes-green t a fine next made goes =
      let h = t.replica.held in
      let cut = index_in h.queue.red_cut a.id.creator in
      record {
        holds = holds-placed t a goes.holds next;
        reds = each-without (Named book) h.queue.reds a.id goes.reds;
        own = each-after (Named book) h.own a.id goes.own;
        made = goes.made;
        led = elim (cases_order a.id.index cut) [
          | inl same ↦ old goes (omega arith)
          | inr apart ↦ elim apart [
            | inl lt ↦ old goes (omega arith)
            | inr gt ↦
                subst (λ k. Led s k (t.green ++ a.id ∷ []) (with_green h a))
                (append_assoc unwritten t.known (a ∷ []) ∙ ap (λ xs. unwritten ++ (t.known ++ xs)) (sym (ap (λ b. cond b (a ∷ []) []) (lt-ltb cut a.id.index gt))))
                (led-new s (unwritten ++ t.known) t.green h a goes.holds made next gt goes.led)
          ]
        ];
      }
    where
      old : Goes book s unwritten t → a.id.index ≤ index_in t.replica.held.queue.red_cut a.id.creator →
          Led s (unwritten ++ (t.known ++ unknown_in t.replica.held.queue a)) (t.green ++ a.id ∷ []) (with_green t.replica.held a)
      old goes le =
          let h = t.replica.held in
          subst (λ k. Led s k (t.green ++ a.id ∷ []) (with_green h a))
          (ap (λ xs. unwritten ++ xs) (sym (append-nil t.known) ∙ ap (λ xs. t.known ++ xs) (sym (ap (λ b. cond b (a ∷ []) []) (le-ltb (index_in h.queue.red_cut a.id.creator) a.id.index le)))))
          (led-green s (unwritten ++ t.known) t.green h a (found-booked book h a goes.holds goes.reds fine next le) next goes.led)

  goes-own : (t : Turn) → Goes book s unwritten t → Goes book s unwritten (own_to_red t)
  goes-own t goes =
      let h = t.replica.held in
      let red = own-reddened t goes.holds in
      record {
        holds = holds-own t goes.holds;
        reds = subst (λ (x : Held). Each (Named book) x.queue.reds) (sym red.held) (each-known_all (Named book) h.own h goes.own goes.reds);
        own = subst (λ (x : Held). Each (Named book) x.own) (sym red.held) (each-own (Named book) h.own h goes.own);
        made = red.made ∙ goes.made;
        led = subst (Led s (unwritten ++ (own_to_red t).known) (own_to_red t).green) (sym red.held)
            (subst (λ g. Led s (unwritten ++ (own_to_red t).known) g (known_all h h.own)) (sym red.green)
            (subst (λ k. Led s k t.green (known_all h h.own)) (append_assoc unwritten t.known h.own ∙ ap (λ k. unwritten ++ k) (sym red.known))
            (led-known_all h.own s (unwritten ++ t.known) t.green h refl goes.holds.own goes.led)));
      }

  pub goes-rule : IsRule (Goes book s unwritten) (Named book)
  goes-rule = record {
    holds = λ t goes. goes.holds;
    reds = λ t goes. goes.reds;
    quiet = λ t state sent goes. record { holds = goes.holds; reds = goes.reds; own = goes.own; made = goes.made; led = goes.led };
    values = λ t yellow valid prim index v buffered red goes. record {
      holds = holds-rule.values t yellow valid prim index v buffered red goes.holds;
      reds = goes.reds;
      own = goes.own;
      made = goes.made;
      led = record { middle = goes.led.middle; knows = goes.led.knows; holds = goes.led.holds; end = goes.led.end; greens = goes.led.greens; alike = goes.led.alike };
    };
    known = λ t a fine next made goes. goes-known t a fine next made goes;
    green = λ t a fine next made goes. goes-green t a fine next made goes;
    own_red = λ t goes. goes-own t goes;
  }
