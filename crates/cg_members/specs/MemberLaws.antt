-- What holds of the members that green actions make.
use Rattle.std.proofs.Common.{◌≡◌, ℕ, suc, ◌+◌, ◌≤◌, ◌≢◌, ◌||◌, ◌⊎◌, List, [], ◌∷◌, ◌++◌, map, length, min, true, eqb, refl, sym, ap, ◌∙◌, arith, inl, inr, Bool, cond, max, ◌<◌, false}
use Rattle.std.proofs.lemmas.Bool.{cases_eq, cases_order, cases_Bool, eq-eqb, ne_eqb, eqb-true, lt-ltb, le-ltb, or_parts, or_cases, or_from, true≢false, or_right}
use Rattle.cg_base.specs.declared.weighted.Weighted.{Weighted}
use Rattle.cg_base.specs.Sets.{has}
use Rattle.cg_base.specs.SetLaws.{has-with_member}
use Rattle.cg_action.specs.declared.action.Kind.{Kind}
use Rattle.cg_action.specs.declared.action.Kind.TheVariants.{Update, Join, Leave}
use Rattle.cg_action.specs.declared.action.Action.{Action}
use Rattle.cg_members.specs.declared.server.Server.{Server}
use Rattle.cg_members.specs.Members.{Members}
use Rattle.cg_members.specs.Servers.{is_among, is_server, was_ever, first_line, with_server, without_server, with_line, starting, with_joiner, departed, raise_line, after_kind, after_green, after_greens, members_of}
use Rattle.cg_members.specs.Laws.{NoLineAbove, AreApart}
use Rattle.cg_members.specs.Listed.{line_of}
use Rattle.cg_base.specs.AscendingLaws.{AllBelow}
use Rattle.cg_members.specs.Listed.{server_ids}

-- ---- one action more

after_greens-more : (m : Members) (place : ℕ) (greens : List Action) (action : Action) →
    after_greens m place (greens ++ action ∷ []) ≡
    after_green (after_greens m place greens) (place + length greens) action
after_greens-more m place [] action =
    ap (λ n. after_green m n action) (let none : place ≡ place + 0 = omega arith in none)
after_greens-more m place (a ∷ greens) action =
    let next : suc place + length greens ≡ place + suc (length greens) = omega arith in
    after_greens-more (after_green m place a) (suc place) greens action
    ∙ ap (λ n. after_green (after_greens m place (a ∷ greens)) n action) next

pub members_of-more : (set : List Weighted) (greens : List Action) (action : Action) →
    members_of set (greens ++ action ∷ []) ≡ after_green (members_of set greens) (suc (length greens)) action
members_of-more set greens action =
    let place : 1 + length greens ≡ suc (length greens) = omega arith in
    after_greens-more (starting set) 1 greens action ∙ ap (λ n. after_green (members_of set greens) n action) place

-- ---- who is a server after a step

is_among-with_server : (servers : List Server) (new : Server) (q : ℕ) → is_among (with_server servers new) q ≡ true →
    (new.id ≡ q) ⊎ (is_among servers q ≡ true)
is_among-with_server [] new q here = elim (cases_eq new.id q) [
  | inl same ↦ inl same
  | inr apart ↦ absurd (true≢false (sym here ∙ rw (ne_eqb new.id q apart)))
]
is_among-with_server (s ∷ servers) new q here = elim (cases_order new.id s.id) [
  | inl same ↦
      let now : (eqb new.id q || is_among servers q) ≡ true = rw (eq-eqb new.id s.id same) at here in
      inr (rw (← same) now)
  | inr apart ↦ elim apart [
    | inl front ↦
        let now : (eqb new.id q || (eqb s.id q || is_among servers q)) ≡ true =
        rw (ne_eqb new.id s.id (λ e. omega arith), lt-ltb new.id s.id front) at here in
        elim (or_cases (eqb new.id q) (eqb s.id q || is_among servers q) now) [
          | inl own ↦ inl (eqb-true new.id q own)
          | inr other ↦ inr other
        ]
    | inr later ↦
        let now : (eqb s.id q || is_among (with_server servers new) q) ≡ true =
        rw (ne_eqb new.id s.id (λ e. omega arith), le-ltb new.id s.id (omega arith)) at here in
        elim (or_cases (eqb s.id q) (is_among (with_server servers new) q) now) [
          | inl own ↦ inr (rw own)
          | inr other ↦ elim (is_among-with_server servers new q other) [
            | inl same ↦ inl same
            | inr old ↦ inr (or_right (eqb s.id q) (is_among servers q) old)
          ]
        ]
  ]
]

pub is_among-without : (servers : List Server) (p q : ℕ) → is_among (without_server servers p) q ≡ true →
    (is_among servers q ≡ true) × (q ≢ p)
is_among-without [] p q here = absurd (true≢false (sym here))
is_among-without (s ∷ servers) p q here = elim (cases_eq s.id p) [
  | inl same ↦
      let rest = is_among-without servers p q (rw (eq-eqb s.id p same) at here) in
      (or_right (eqb s.id q) (is_among servers q) rest.0, rest.1)
  | inr apart ↦
      let now : (eqb s.id q || is_among (without_server servers p) q) ≡ true = rw (ne_eqb s.id p apart) at here in
      elim (or_cases (eqb s.id q) (is_among (without_server servers p) q) now) [
        | inl own ↦ let equal : s.id ≡ q = eqb-true s.id q own in (rw own, λ e. apart (equal ∙ e))
        | inr other ↦ let rest = is_among-without servers p q other in
            (or_right (eqb s.id q) (is_among servers q) rest.0, rest.1)
      ]
]

pub is_among-with_line : (servers : List Server) (p line q : ℕ) →
    is_among (map (with_line p line) servers) q ≡ is_among servers q
is_among-with_line [] p line q = refl
is_among-with_line (s ∷ servers) p line q = elim (cases_Bool (eqb s.id p)) [
  | inl same ↦ rw same (ap (λ b. eqb s.id q || b) (is_among-with_line servers p line q))
  | inr apart ↦ rw apart (ap (λ b. eqb s.id q || b) (is_among-with_line servers p line q))
]

-- ---- lines after a step

NoLineAbove-more : (count more : ℕ) (servers : List Server) → count ≤ more → NoLineAbove count servers →
    NoLineAbove more servers
NoLineAbove-more count more [] le none = tt
NoLineAbove-more count more (s ∷ servers) le none = let here : s.line ≤ count = none.0 in
    (omega arith, NoLineAbove-more count more servers le none.1)

NoLineAbove-with_server : (count : ℕ) (servers : List Server) (new : Server) → NoLineAbove count servers →
    new.line ≤ count → NoLineAbove count (with_server servers new)
NoLineAbove-with_server count [] new none le = (le, tt)
NoLineAbove-with_server count (s ∷ servers) new none le = elim (cases_order new.id s.id) [
  | inl same ↦ rw (eq-eqb new.id s.id same) (le, none.1)
  | inr apart ↦ elim apart [
    | inl front ↦ rw (ne_eqb new.id s.id (λ e. omega arith), lt-ltb new.id s.id front) (le, none)
    | inr later ↦ rw (ne_eqb new.id s.id (λ e. omega arith), le-ltb new.id s.id (omega arith)) (
      none.0,
      NoLineAbove-with_server count servers new none.1 le,
    )
  ]
]

NoLineAbove-without : (count : ℕ) (servers : List Server) (p : ℕ) → NoLineAbove count servers →
    NoLineAbove count (without_server servers p)
NoLineAbove-without count [] p none = tt
NoLineAbove-without count (s ∷ servers) p none = elim (cases_eq s.id p) [
  | inl same ↦ rw (eq-eqb s.id p same) (NoLineAbove-without count servers p none.1)
  | inr apart ↦ rw (ne_eqb s.id p apart) (none.0, NoLineAbove-without count servers p none.1)
]

NoLineAbove-with_line : (count : ℕ) (servers : List Server) (p line : ℕ) → NoLineAbove count servers → line ≤ count →
    NoLineAbove count (map (with_line p line) servers)
NoLineAbove-with_line count [] p line none le = tt
NoLineAbove-with_line count (s ∷ servers) p line none le =
    let here : s.line ≤ count = none.0 in
    let rest = NoLineAbove-with_line count servers p line none.1 le in
    elim (cases_Bool (eqb s.id p)) [
      | inl same ↦ rw same (omega arith, rest)
      | inr apart ↦ rw apart (here, rest)
    ]

-- ---- the law

AreApart-joined : (m : Members) (count p weight : ℕ) → AreApart m count →
    AreApart (with_joiner m p weight (suc count)) (suc count)
AreApart-joined m count p weight are = elim (cases_Bool (was_ever m p)) [
  | inl was ↦ rw was (record {
    apart = are.apart;
    lines = NoLineAbove-more count (suc count) m.servers (omega arith) are.lines;
  })
  | inr never ↦ rw never (record {
    apart = λ q here. elim (is_among-with_server
        m.servers (record { id = p; line = suc count; weight = weight }) q here) [
          | inl same ↦ rw (← same) (or_parts (is_server m p) (has m.left p) never).1
          | inr old ↦ are.apart q old
        ];
    lines = NoLineAbove-with_server (suc count) m.servers (record {
      id = p;
      line = suc count;
      weight = weight;
    }) (NoLineAbove-more count (suc count) m.servers (omega arith) are.lines) (omega arith);
  })
]

AreApart-departed : (m : Members) (count p : ℕ) → AreApart m count → AreApart (departed m p) (suc count)
AreApart-departed m count p are =
    let lines = NoLineAbove-more count (suc count) m.servers (omega arith) are.lines in
    elim (cases_Bool (is_server m p)) [
      | inl is ↦ rw is (record {
        apart = λ q here.
            let old = is_among-without m.servers p q here in
            has-with_member m.left p q
            ∙ or_from (has m.left q) (eqb p q) (are.apart q old.0) (ne_eqb p q (λ e. old.1 (sym e)));
        lines = NoLineAbove-without (suc count) m.servers p lines;
      })
      | inr isn't ↦ rw isn't (record { apart = are.apart; lines = lines })
    ]

AreApart-after_kind : (m : Members) (count : ℕ) (kind : Kind) → AreApart m count →
    AreApart (after_kind m (suc count) kind) (suc count)
AreApart-after_kind m count (Update cmds query) are =
    record { apart = are.apart; lines = NoLineAbove-more count (suc count) m.servers (omega arith) are.lines }
AreApart-after_kind m count (Join joiner weight) are = AreApart-joined m count joiner weight are
AreApart-after_kind m count (Leave server) are = AreApart-departed m count server are

AreApart-raised : (m : Members) (count p line : ℕ) → AreApart m count → line ≤ count →
    AreApart (raise_line m p line) count
AreApart-raised m count p line are le = record {
  apart = λ q here. are.apart q (sym (is_among-with_line m.servers p line q) ∙ here);
  lines = NoLineAbove-with_line count m.servers p line are.lines le;
}

-- one green action more
pub AreApart-after_green : (m : Members) (count : ℕ) (a : Action) → AreApart m count →
    AreApart (after_green m (suc count) a) (suc count)
AreApart-after_green m count a are =
    AreApart-raised (after_kind m (suc count) a.kind) (suc count)
    a.id.creator (min a.green_line (suc count)) (AreApart-after_kind m count a.kind are) (omega arith)

AreApart-after_greens : (m : Members) (count : ℕ) (greens : List Action) → AreApart m count →
    AreApart (after_greens m (suc count) greens) (count + length greens)
AreApart-after_greens m count [] are = let same : count ≡ count + 0 = omega arith in rw (← same) are
AreApart-after_greens m count (a ∷ greens) are =
    let next : suc count + length greens ≡ count + suc (length greens) = omega arith in
    rw (← next) (AreApart-after_greens (after_green m (suc count) a) (suc count)
    greens (AreApart-after_green m count a are))

pub AreApart-starting : (set : List Weighted) → AreApart (starting set) 0
AreApart-starting set = record { apart = λ p here. refl; lines = none set }
  where
    none : (set : List Weighted) → NoLineAbove 0 (map first_line set)
    none [] = tt
    none (m ∷ set) = (omega arith, none set)

pub members_of-apart : (set : List Weighted) (greens : List Action) → AreApart (members_of set greens) (length greens)
members_of-apart set greens =
    let count : 0 + length greens ≡ length greens = omega arith in
    rw count at (AreApart-after_greens (starting set) 0 greens (AreApart-starting set))

pub with_server-last : (servers : List Server) (n : Server) → AllBelow n.id (server_ids servers) → with_server servers n ≡ servers ++ n ∷ []
with_server-last [] n below = refl
with_server-last (m ∷ servers) n below =
    let lt : m.id < n.id = below.0 in
    let apart : n.id ≢ m.id = λ e. omega arith in
    rw (ne_eqb n.id m.id apart, le-ltb n.id m.id (omega arith), with_server-last servers n below.1) refl

pub either_way : (b : Bool) (x y m n : ℕ) → x ≤ y → m ≤ n → cond b x m ≤ cond b y n
either_way true x y m n first second = first
either_way false x y m n first second = second

pub line_of-raised : (servers : List Server) (p line q : ℕ) → line_of servers q ≤ line_of (map (with_line p line) servers) q
line_of-raised [] p line q = omega arith
line_of-raised (s ∷ servers) p line q =
    let rest = line_of-raised servers p line q in
    elim (cases_Bool (eqb s.id p)) [
      | inl same ↦ rw same (either_way (eqb s.id q) s.line (max s.line line) (line_of servers q) (line_of (map (with_line p line) servers) q) (omega arith) rest)
      | inr apart ↦ rw apart (either_way (eqb s.id q) s.line s.line (line_of servers q) (line_of (map (with_line p line) servers) q) (omega arith) rest)
    ]
