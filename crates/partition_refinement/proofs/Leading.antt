-- First places of classes, as classes are joined to those that they were parted off.
use Rattle.std.proofs.Common.{◌≡◌, ◌≢◌, ◌≤◌, ◌<◌, ℕ, ◌+◌, ◌-◌, List, [], ◌∷◌, ◌++◌, refl, sym, ◌∙◌, ap, subst, inl, inr, length, arith, length-append, get_or-set_same, get_or-set_other, min, max}
use Rattle.std.specs.Prelude.{◌↔◌, ◌⊎◌, slice_index, slice_set}
use Rattle.std.proofs.lemmas.Bool.{cases_eq, cases_lt}
use Rattle.std.proofs.lemmas.List.{get_or_push, get_or_append_left}
use Rattle.partitions.specs.Layouts.{Layout, size, count, class_in, first_of, parent_of, IsLaid}
use Rattle.partitions.specs.Refinements.{Above, here, up}
use Rattle.partition_refinement.specs.Firsts.{IsFirstIn, IsFirst}
use Rattle.partition_refinement.specs.steps.Working.{AreFirstPlaces, AreBorn}
use Rattle.partition_refinement.proofs.Turns.{above_one}

-- one class fewer
lower_other : (ps : List ℕ) (e x c : ℕ) → Above ps (e + 1) x c → c ≢ e → Above ps e x c
lower_other ps e x c (here d l) n = here d (omega arith)
lower_other ps e x c (up d a l m rest) n = up d a (omega arith) m (lower_other ps e (slice_index ps d) a rest n)

above_itself : (ps : List ℕ) (e d : ℕ) → d ≡ e → slice_index ps e < e → Above ps e d (slice_index ps e)
above_itself ps e d same l =
    subst (λ k. Above ps e k (slice_index ps e)) (sym same)
    (up e (slice_index ps e) (omega arith) l (here (slice_index ps e) l))

lower_joined : (ps : List ℕ) (e x c : ℕ) → Above ps (e + 1) x c → c ≡ e → slice_index ps e < e
    → Above ps e x (slice_index ps e)
lower_joined ps e x c (here d l) same k = above_itself ps e d same k
lower_joined ps e x c (up d a l m rest) same k =
    up d (slice_index ps e) (omega arith) m (lower_joined ps e (slice_index ps d) a rest same k)

-- one class more
raised : (ps : List ℕ) (e x c : ℕ) → slice_index ps e < e → Above ps e x c
    → Above ps (e + 1) x c ⊎ ((slice_index ps e ≡ c) × Above ps (e + 1) x e)
raised ps e x c k (here d l) = inl (here d (omega arith))
raised ps e x c k (up d a l m rest) = elim (cases_eq d e) [
  | inl same ↦
      let in_parent : Above ps e (slice_index ps e) a = subst (λ f. Above ps e (slice_index ps f) a) same rest in
      inr (
        above_one ps e (slice_index ps e) (slice_index ps e) a (here (slice_index ps e) k) in_parent,
        subst (λ f. Above ps (e + 1) f e) (sym same) (here e (omega arith)),
      )
  | inr n ↦ elim (raised ps e (slice_index ps d) a k rest) [
    | inl r ↦ inl (up d a (omega arith) m r)
    | inr r ↦ inr (r.0, up d e (omega arith) m r.1)
  ]
]

-- a class has one first place
pub lead_one : (p : Layout) (base c h k : ℕ) → IsFirstIn p base c h → IsFirstIn p base c k → h ≡ k
lead_one p base c h k a b =
    let l = a.least k b.within b.there in let m = b.least h a.within a.there in omega arith

-- a place is the first of one class
class_one : (p : Layout) (base c d h : ℕ) → IsFirstIn p base c h → IsFirstIn p base d h → c ≡ d
class_one p base c d h a b = above_one p.parent base (class_in p h) c d a.there b.there

module _ (p : Layout) (e c a b : ℕ) (ls ms : List ℕ) (below : c < e) (parent_is : parent_of p e ≡ c)
    (first_places : AreFirstPlaces p (e + 1) ls) (a_is : a ≡ slice_index ls c) (b_is : b ≡ slice_index ls e)
    (inside : c < length ls) (written : ms ≡ slice_set ls c (min a b)) where
  k : slice_index p.parent e < e
  k = omega arith

  at_c : IsFirstIn p (e + 1) c a
  at_c = subst (IsFirstIn p (e + 1) c) (sym a_is) (first_places c (omega arith))

  at_e : IsFirstIn p (e + 1) e b
  at_e = subst (IsFirstIn p (e + 1) e) (sym b_is) (first_places e (omega arith))

  apart : a ≢ b
  apart same =
      let one : e ≡ c = class_one p (e + 1) e c b at_e (subst (IsFirstIn p (e + 1) c) same at_c) in omega arith

  kept : (d : ℕ) → d ≢ c → slice_index ms d ≡ slice_index ls d
  kept d n = ap (λ l. slice_index l d) written ∙ get_or-set_other ls c d (min a b) 0 n

  now : slice_index ms c ≡ min a b
  now = ap (λ l. slice_index l c) written ∙ get_or-set_same ls c (min a b) 0 inside

  -- both are in class c
  a_in : Above p.parent e (class_in p a) c
  a_in = lower_other p.parent e (class_in p a) c at_c.there (omega arith)

  b_in : Above p.parent e (class_in p b) c
  b_in = subst (Above p.parent e (class_in p b)) parent_is
      (lower_joined p.parent e (class_in p b) e at_e.there refl k)

  joined : (x : ℕ) → x < size p → Above p.parent e (class_in p x) c → (a ≤ x) ⊎ (b ≤ x)
  joined x l h = elim (raised p.parent e (class_in p x) c k h) [
    | inl r ↦ inl (at_c.least x l r)
    | inr r ↦ inr (at_e.least x l r.1)
  ]

  least_c : (m : ℕ) → m ≡ min a b → IsFirstIn p e c m
  least_c m is = elim (cases_lt a b) [
    | inl l ↦
        let same : a ≡ m = omega arith in
        subst (IsFirstIn p e c) same (record {
          within = at_c.within;
          there = a_in;
          least = λ x n h. elim (joined x n h) [ inl o ↦ o | inr o ↦ omega arith ];
        })
    | inr l ↦
        let same : b ≡ m = omega arith in
        subst (IsFirstIn p e c) same (record {
          within = at_e.within;
          there = b_in;
          least = λ x n h. elim (joined x n h) [ inl o ↦ omega arith | inr o ↦ o ];
        })
  ]

  other : (d : ℕ) → d < e → d ≢ c → IsFirstIn p e d (slice_index ls d)
  other d l n =
      let at = first_places d (omega arith) in
      record {
        within = at.within;
        there = lower_other p.parent e (class_in p (slice_index ls d)) d at.there (omega arith);
        least = λ x m h. elim (raised p.parent e (class_in p x) d k h) [
          | inl r ↦ at.least x m r
          | inr r ↦ absurd (n (sym r.0 ∙ parent_is))
        ];
      }

  pub leads_joined : AreFirstPlaces p e ms
  leads_joined d l = elim (cases_eq d c) [
    | inl same ↦ subst (λ d. IsFirstIn p e d (slice_index ms d)) (sym same) (least_c (slice_index ms c) now)
    | inr n ↦ subst (IsFirstIn p e d) (sym (kept d n)) (other d l n)
  ]

  a_leads : IsFirst p (e + 1) a
  a_leads = (c, omega arith, at_c)

  b_leads : IsFirst p (e + 1) b
  b_leads = (e, omega arith, at_e)

  greater : (h : ℕ) → h ≡ max a b → IsFirst p (e + 1) h
  greater h is = elim (cases_lt a b) [
    | inl l ↦ let same : b ≡ h = omega arith in subst (IsFirst p (e + 1)) same b_leads
    | inr l ↦ let same : a ≡ h = omega arith in subst (IsFirst p (e + 1)) same a_leads
  ]

  lesser : (h : ℕ) → h ≡ min a b → IsFirst p (e + 1) h
  lesser h is = elim (cases_lt a b) [
    | inl l ↦ let same : a ≡ h = omega arith in subst (IsFirst p (e + 1)) same a_leads
    | inr l ↦ let same : b ≡ h = omega arith in subst (IsFirst p (e + 1)) same b_leads
  ]

  one_of : (h : ℕ) → (h ≡ a) ⊎ (h ≡ b) → IsFirst p e h ⊎ (h ≡ max a b)
  one_of h which = elim (cases_lt a b) [
    | inl l ↦ elim which [
      | inl is ↦ inl (c, below, least_c h (omega arith))
      | inr is ↦ inr (omega arith)
    ]
    | inr l ↦ elim which [
      | inl is ↦ inr (omega arith)
      | inr is ↦ inl (c, below, least_c h (omega arith))
    ]
  ]

  pub begins : (h : ℕ) → IsFirst p (e + 1) h ↔ (IsFirst p e h ⊎ (h ≡ max a b))
  begins h = (
    λ was. elim (cases_eq was.0 e) [
      | inl same ↦ one_of h (inr (lead_one p (e + 1) e h b (subst (λ d. IsFirstIn p (e + 1) d h) same was.2) at_e))
      | inr n ↦ elim (cases_eq was.0 c) [
        | inl same ↦ one_of h (inl (lead_one p (e + 1) c h a (subst (λ d. IsFirstIn p (e + 1) d h) same was.2) at_c))
        | inr m ↦
            let l = was.1 in
            let below_e : was.0 < e = omega arith in
            let is : h ≡ slice_index ls was.0 = lead_one p (e + 1) was.0 h (slice_index ls was.0) was.2 (first_places was.0 l) in
            inl (was.0, below_e, subst (IsFirstIn p e was.0) (sym is) (other was.0 below_e m))
      ]
    ],
    λ h_is. elim h_is [
      | inl is ↦ elim (cases_eq is.0 c) [
        | inl same ↦ lesser h (lead_one p e c h (min a b) (subst (λ d. IsFirstIn p e d h) same is.2)
            (least_c (min a b) refl))
        | inr n ↦
            let l = is.1 in
            let same : slice_index ls is.0 ≡ h = lead_one p e is.0 (slice_index ls is.0) h (other is.0 l n) is.2 in
            (is.0, omega arith, subst (IsFirstIn p (e + 1) is.0) same (first_places is.0 (omega arith)))
      ]
      | inr is ↦ greater h is
    ],
  )

  pub greater_in : (h : ℕ) → h ≡ max a b → Above p.parent e (class_in p h) c
  greater_in h is = elim (cases_lt a b) [
    | inl l ↦ let same : b ≡ h = omega arith in subst (λ x. Above p.parent e (class_in p x) c) same b_in
    | inr l ↦ let same : a ≡ h = omega arith in subst (λ x. Above p.parent e (class_in p x) c) same a_in
  ]

  pub fresh : (h : ℕ) → h ≡ max a b → IsFirst p e h → ⊥
  fresh h is leads_e =
      let in_c : leads_e.0 ≡ c = above_one p.parent e (class_in p h) leads_e.0 c leads_e.2.there (greater_in h is) in
      let same : h ≡ min a b = lead_one p e c h (min a b) (subst (λ d. IsFirstIn p e d h) in_c leads_e.2)
      (least_c (min a b) refl) in
      apart (omega arith)

pub born_more : (p : Layout) (e high x : ℕ) (born more : List ℕ) → e + 1 ≤ high → AreBorn p (e + 1) high born
    → more ≡ born ++ x ∷ [] → ((h : ℕ) → IsFirst p (e + 1) h ↔ (IsFirst p e h ⊎ (h ≡ x))) → (IsFirst p e x → ⊥)
    → Above p.parent e (class_in p x) (parent_of p e)
    → AreBorn p e high more
born_more p e high x born more le before is here_begins here_fresh here_parent =
    let n : length more ≡ length born + 1 = ap length is ∙ length-append born (x ∷ []) in
    let each = before.each in
    let old : (j : ℕ) → j < length born → slice_index more j ≡ slice_index born j = λ j l.
    ap (λ l. slice_index l j) is ∙ get_or_append_left born (x ∷ []) 0 j l in
    let new : (j : ℕ) → j ≡ length born → slice_index more j ≡ x = λ j e.
    ap (λ l. slice_index l j) is ∙ get_or_push born x 0 j (sym e) in
    record {
      each = omega arith;
      begins = λ d l m h. elim (cases_eq d e) [
        | inl same ↦
            let at : slice_index more (high - 1 - d) ≡ x = new (high - 1 - d) (omega arith) in
            subst (λ k. IsFirst p (k + 1) h ↔ (IsFirst p k h ⊎ (h ≡ slice_index more (high - 1 - d)))) (sym same)
            (subst (λ y. IsFirst p (e + 1) h ↔ (IsFirst p e h ⊎ (h ≡ y))) (sym at) (here_begins h))
        | inr k ↦
            let at : slice_index more (high - 1 - d) ≡ slice_index born (high - 1 - d) = old (high - 1 - d) (omega arith) in
            subst (λ y. IsFirst p (d + 1) h ↔ (IsFirst p d h ⊎ (h ≡ y))) (sym at) (before.begins d (omega arith) m h)
      ];
      fresh = λ d l m h. elim (cases_eq d e) [
        | inl same ↦
            let at : slice_index more (high - 1 - d) ≡ x = new (high - 1 - d) (omega arith) in
            here_fresh (subst (IsFirst p e) at (subst (λ k. IsFirst p k (slice_index more (high - 1 - d))) same h))
        | inr k ↦
            let at : slice_index more (high - 1 - d) ≡ slice_index born (high - 1 - d) = old (high - 1 - d) (omega arith) in
            before.fresh d (omega arith) m (subst (IsFirst p d) at h)
      ];
      in_parent = λ d l m. elim (cases_eq d e) [
        | inl same ↦
            let at : slice_index more (high - 1 - d) ≡ x = new (high - 1 - d) (omega arith) in
            subst (λ k. Above p.parent k (class_in p (slice_index more (high - 1 - d))) (parent_of p k)) (sym same)
            (subst (λ y. Above p.parent e (class_in p y) (parent_of p e)) (sym at) here_parent)
        | inr k ↦
            let at : slice_index more (high - 1 - d) ≡ slice_index born (high - 1 - d) = old (high - 1 - d) (omega arith) in
            subst (λ y. Above p.parent d (class_in p y) (parent_of p d)) (sym at) (before.in_parent d (omega arith) m)
      ];
    }

-- the first places of the classes of the places from i on
pub record AreFirstFrom (p : Layout) (i : ℕ) (ls : List ℕ) : Type 0 where
  pub each : length ls ≡ count p
  pub low : (y : ℕ) → i ≤ y → y < size p → slice_index ls (class_in p y) ≤ y
  pub member : (y : ℕ) → i ≤ y → y < size p → class_in p (slice_index ls (class_in p y)) ≡ class_in p y

pub leads_all : (p : Layout) (ls : List ℕ) → IsLaid p → AreFirstFrom p 0 ls → AreFirstPlaces p (count p) ls
leads_all p ls laid all c l =
    let range = laid.ranges c l in
    let some = range.some in let inside = range.inside in
    let places = laid.places in
    let y : ℕ = slice_index p.order (first_of p c) in
    let y_in : y < length p.index = laid.inverse.order_below (first_of p c) (omega arith) in
    let class_is : class_in p y ≡ c = laid.alone c (first_of p c) l (omega arith) some in
    let low : slice_index ls (class_in p y) ≤ y = all.low y (omega arith) (omega arith) in
    let at : slice_index ls (class_in p y) ≡ slice_index ls c = ap (slice_index ls) class_is in
    let member : class_in p (slice_index ls c) ≡ c =
    ap (class_in p) (sym at) ∙ all.member y (omega arith) (omega arith) ∙ class_is in
    record {
      within = omega arith;
      there = subst (λ d. Above p.parent (count p) d c) (sym member) (here c l);
      least = λ x m h.
          let known = (laid.within x m).known in
          let same : class_in p x ≡ c = above_one p.parent (count p) (class_in p x) (class_in p x) c
          (here (class_in p x) known) h in
          let b = all.low x (omega arith) m in
          let e : slice_index ls (class_in p x) ≡ slice_index ls c = ap (slice_index ls) same in
          omega arith;
    }
