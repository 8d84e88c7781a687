-- What the parts of a checkpoint make, put in one after another.
use Rattle.std.proofs.Common.{◌⊎◌, ◌≡◌, ℕ, ◌<◌, List, [], ◌∷◌, ◌++◌, true, false, fold, append-nil, append_assoc, refl, sym, ap, ◌∙◌, subst, arith, inl, inr}
use Rattle.std.proofs.lemmas.Bool.{cases_order, eq-eqb, ne_eqb, le-ltb, and_parts}
use Rattle.cg_base.specs.declared.action_id.ActionId.{ActionId}
use Rattle.cg_base.specs.Ids.{id_before}
use Rattle.cg_base.specs.Cuts.{raise}
use Rattle.cg_action.specs.declared.action.Action.{Action}
use Rattle.cg_queue.specs.Queue.{QueueView, names_of, with_red}
use Rattle.cg_client.specs.Replica.{Held}
use Rattle.cg_disk_records.specs.declared.checkpoint.Checkpoint.{Checkpoint}
use Rattle.cg_disk_records.specs.Parts.{queue_in, stored_in}
use Rattle.cg_disk_records.specs.Following.{are_yellow, put_values}
use Rattle.cg_disk_records.specs.Agreeing.{is_by_name}
use Rattle.cg_store.specs.declared.resuming.GreenState.{GreenState}
use Rattle.cg_store.specs.Rebuilt.{with_kept_red, with_kept_own, resumed_with}

-- ---- names in order

abbrev Before : ActionId → ActionId → Type 0
Before a b = (a.creator < b.creator) ⊎ ((a.creator ≡ b.creator) × (a.index < b.index))

before_parts : (a b : ActionId) → id_before a b ≡ true → Before a b
before_parts a b before = elim (cases_order a.creator b.creator) [
  | inl same ↦ elim (cases_order a.index b.index) [
    | inl e ↦ absurd (clash (sym (rw (le-ltb a.creator b.creator (omega arith), eq-eqb a.creator b.creator same, le-ltb a.index b.index (omega arith)) at before)))
    | inr apart ↦ elim apart [
      | inl lt ↦ inr (same, lt)
      | inr gt ↦ absurd (clash (sym (rw (le-ltb a.creator b.creator (omega arith), eq-eqb a.creator b.creator same, le-ltb a.index b.index (omega arith)) at before)))
    ]
  ]
  | inr apart ↦ elim apart [
    | inl lt ↦ inl lt
    | inr gt ↦ absurd (clash (sym (rw (le-ltb a.creator b.creator (omega arith), ne_eqb a.creator b.creator (λ e. omega arith)) at before)))
  ]
]
  where
    clash : true ≡ false → ⊥
    clash e = cc

before_trans : (a b c : ActionId) → Before a b → Before b c → Before a c
before_trans a b c (inl lt) (inl more) = inl (omega arith)
before_trans a b c (inl lt) (inr more) = let same : b.creator ≡ c.creator = more.0 in inl (omega arith)
before_trans a b c (inr eq) (inl more) = let same : a.creator ≡ b.creator = eq.0 in inl (omega arith)
before_trans a b c (inr eq) (inr more) =
    let lt : a.index < b.index = eq.1 in
    let next : b.index < c.index = more.1 in
    inr (eq.0 ∙ more.0, omega arith)

not_before : (a b : ActionId) → Before a b → id_before b a ≡ false
not_before a b (inl lower) = rw (le-ltb b.creator a.creator (omega arith), ne_eqb b.creator a.creator (λ e. omega arith)) refl
not_before a b (inr same) =
    let e : a.creator ≡ b.creator = same.0 in
    let lt : a.index < b.index = same.1 in
    rw (le-ltb b.creator a.creator (omega arith), eq-eqb b.creator a.creator (sym e), le-ltb b.index a.index (omega arith)) refl

by_name_rest : (x : Action) (rest : List Action) → is_by_name (x ∷ rest) ≡ true → is_by_name rest ≡ true
by_name_rest x [] up = refl
by_name_rest x (y ∷ rest) up = (and_parts (id_before x.id y.id) (is_by_name (y ∷ rest)) up).1

before_later : (x : Action) (xs : List Action) (a : Action) (rest : List Action) → is_by_name (x ∷ (xs ++ a ∷ rest)) ≡ true → Before x.id a.id
before_later x [] a rest up = before_parts x.id a.id (and_parts (id_before x.id a.id) (is_by_name (a ∷ rest)) up).0
before_later x (y ∷ ys) a rest up =
    let parts = and_parts (id_before x.id y.id) (is_by_name (y ∷ (ys ++ a ∷ rest))) up in
    before_trans x.id y.id a.id (before_parts x.id y.id parts.0) (before_later y ys a rest parts.1)

-- a red behind all others by name comes last
with_red_last : (xs : List Action) (a : Action) (rest : List Action) → is_by_name (xs ++ a ∷ rest) ≡ true → with_red xs a ≡ xs ++ a ∷ []
with_red_last [] a rest up = refl
with_red_last (x ∷ xs) a rest up =
    rw (not_before x.id a.id (before_later x xs a rest up)) (ap (λ (l : List Action). x ∷ l) (with_red_last xs a rest (by_name_rest x (xs ++ a ∷ rest) up)))

-- ---- the queue

abbrev holding : Held → QueueView → List Action → Held
holding h q own = record h { queue = q; own = own }

-- a queue with these reds
abbrev with_reds : QueueView → List ActionId → List Action → QueueView
with_reds q cut reds = record q { red_cut = cut; reds = reds }

reds_put : (h : Held) (q : QueueView) (cut : List ActionId) (had reds : List Action) → is_by_name (had ++ reds) ≡ true →
    fold with_kept_red (holding h (with_reds q cut had) []) reds ≡ holding h (with_reds q (fold raise cut (names_of reds)) (had ++ reds)) []
reds_put h q cut had [] up = ap (λ l. holding h (with_reds q cut l) []) (sym (append-nil had))
reds_put h q cut had (a ∷ reds) up =
    ap (λ l. fold with_kept_red (holding h (with_reds q (raise cut a.id) l) []) reds) (with_red_last had a reds up)
    ∙ reds_put h q (raise cut a.id) (had ++ a ∷ []) reds (subst (λ l. is_by_name l ≡ true) (sym (append_assoc had (a ∷ []) reds)) up)
    ∙ ap (λ l. holding h (with_reds q (fold raise (raise cut a.id) (names_of reds)) l) []) (append_assoc had (a ∷ []) reds)

own_put : (h : Held) (had own : List Action) → fold with_kept_own (record h { own = had }) own ≡ record h { own = had ++ own }
own_put h had [] = ap (λ l. record h { own = l }) (sym (append-nil had))
own_put h had (a ∷ own) = own_put h (had ++ a ∷ []) own ∙ ap (λ l. record h { own = l }) (append_assoc had (a ∷ []) own)

-- what a checkpoint says of greens
abbrev pub greens_in : Checkpoint → GreenState
greens_in p = record { reached = p.reached; greens = p.kept.greens; db = p.db; prim = p.stable.prim; attempt_index = p.stable.attempt_index; vulnerable = p.stable.vulnerable }

-- before the values are put in
abbrev before_values : ℕ → Checkpoint → Held
before_values id p =
    let base = resumed_with id (greens_in p) in
    record (holding base (with_reds base.queue (fold raise p.reached.cut (names_of p.kept.reds)) p.kept.reds) []) { own = p.kept.own }

pub all-but-values : (id : ℕ) (p : Checkpoint) (h1 h2 h3 : Held) → h1 ≡ resumed_with id (greens_in p) → h2 ≡ fold with_kept_red h1 p.kept.reds → h3 ≡ fold with_kept_own h2 p.kept.own →
    is_by_name p.kept.reds ≡ true → h3 ≡ before_values id p
all-but-values id p h1 h2 h3 e1 e2 e3 up =
    let base = resumed_with id (greens_in p) in
    let two = e2 ∙ ap (λ h. fold with_kept_red h p.kept.reds) e1 ∙ reds_put base base.queue p.reached.cut [] p.kept.reds up in
    e3 ∙ ap (λ (h : Held). fold with_kept_own h p.kept.own) two ∙ own_put (holding base (with_reds base.queue (fold raise p.reached.cut (names_of p.kept.reds)) p.kept.reds) []) [] p.kept.own

-- the yellow names are those of reds there
pub yellow-red : (p : Checkpoint) (h : Held) (id : ℕ) → h ≡ before_values id p → are_yellow (queue_in p) p.stable.yellow.list ≡ true → are_yellow h.queue p.stable.yellow.list ≡ true
yellow-red p h id is yellow = subst (λ (x : Held). are_yellow x.queue p.stable.yellow.list ≡ true) (sym is) yellow

-- all parts of a checkpoint, put in one after another
pub rebuilt : (id : ℕ) (p : Checkpoint) (h3 h4 : Held) → h3 ≡ before_values id p → h4 ≡ put_values h3 p.stable → h4 ≡ stored_in id p
rebuilt id p h3 h4 e3 e4 = e4 ∙ ap (λ h. put_values h p.stable) e3
