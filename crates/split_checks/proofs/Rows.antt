-- Lists of places by class, as they change.
use Rattle.std.proofs.Common.{◌≡◌, ◌≢◌, ◌≤◌, ◌<◌, ℕ, zero, suc, ◌+◌, List, [], ◌∷◌, ◌++◌, refl, sym, ◌∙◌, ap, subst, inl, inr, length, set, get_or, arith}
use Rattle.std.specs.Prelude.{slice_index, Result, Ok, Err, IfOk}
use Rattle.std.specs.Global.{Vec}
use Rattle.std.specs.List.{Contains}
use Rattle.std.proofs.lemmas.Bool.{cases_eq, cases_lt}
use Rattle.std.proofs.lemmas.List.{get_or-map, get_or-set_other, get_or-set_same, length-set}
use Rattle.std.proofs.lemmas.List.Elements.{Contains-append_cases, Contains-append_left, Contains-append_right, Contains-push, Contains-push_cases}
use Rattle.partitions.specs.declared.pairs.Pair.{Pair}
use Rattle.split_checks.specs.declared.births.Birth.{Birth}
use Rattle.split_checks.specs.steps.ComputedMembers.{AddsTo, Hold, row}
use Rattle.split_checks.specs.steps.ComputedUndoing.{AreMerged, Undoes, pairs_of}

-- the list of a class that there is
pub row_is : (lists : List (Vec ℕ)) (d : ℕ) (v : Vec ℕ) → d < length lists → row lists d ≡ (get_or lists d v).items
row_is lists d v l = get_or-map (λ (w : Vec ℕ). w.items) lists d v [] l

-- the list of a class after another is stored in its place
pub row_set : (lists : List (Vec ℕ)) (d : ℕ) (v : Vec ℕ) → d < length lists → row (set lists d v) d ≡ v.items
row_set lists d v l =
    row_is (set lists d v) d v (let n = length-set lists d v in omega (arith, n, l))
    ∙ ap (λ (w : Vec ℕ). w.items) (get_or-set_same lists d v v l)

pub row_other : (lists : List (Vec ℕ)) (d e : ℕ) (v : Vec ℕ) → e ≢ d → row (set lists d v) e ≡ row lists e
row_other lists d e v n = elim (cases_lt e (length lists)) [
  | inl l ↦
      row_is (set lists d v) e v (let m = length-set lists d v in omega (arith, m, l))
      ∙ ap (λ (w : Vec ℕ). w.items) (get_or-set_other lists d e v v n) ∙ sym (row_is lists e v l)
  | inr l ↦
      beyond (set lists d v) e (let m = length-set lists d v in omega (arith, m, l)) ∙ sym (beyond lists e l)
]
  where
    beyond : (ls : List (Vec ℕ)) (k : ℕ) → length ls ≤ k → row ls k ≡ []
    beyond [] k l = refl
    beyond (w ∷ ls) zero l = absurd (omega (arith, l))
    beyond (w ∷ ls) (suc k) l = beyond ls k (omega (arith, l))

-- one place more is added
pub added_to : (lists : List (Vec ℕ)) (class place : ℕ) (old new : Vec ℕ) → class < length lists
    → old ≡ get_or lists class old → new.items ≡ old.items ++ place ∷ [] → AddsTo class place lists (set lists class new)
added_to lists class place old new l old_is new_is = record {
  each = length-set lists class new;
  there = row_set lists class new l ∙ new_is
      ∙ ap (λ (xs : List ℕ). xs ++ place ∷ []) (ap (λ (w : Vec ℕ). w.items) old_is ∙ sym (row_is lists class old l));
  others = λ d n. row_other lists class d new n;
}

-- the first n places stand in the lists of their classes
pub record HoldFirst (last : List ℕ) (lists : List (Vec ℕ)) (classes n : ℕ) : Type 0 where
  pub each : length lists ≡ classes
  pub hold : Hold lists n (slice_index last)

pub hold_more : (last : List ℕ) (lists new : List (Vec ℕ)) (classes n class : ℕ) → HoldFirst last lists classes n
    → class ≡ slice_index last n → AddsTo class n lists new → HoldFirst last new classes (n + 1)
hold_more last lists new classes n class h class_is adds = record {
  each = adds.each ∙ h.each;
  hold = λ d x. elim (cases_eq d class) [
    | inl e ↦
        let here : row new d ≡ row lists d ++ n ∷ [] =
        ap (row new) e ∙ adds.there ∙ ap (λ k. row lists k ++ n ∷ []) (sym e) in (
          λ m. elim (Contains-push_cases (row lists d) n x (subst (λ xs. Contains xs x) here m)) [
            | inl old ↦ (let w = (h.hold d x).0 old in (let l = w.0 in omega (arith, l), w.1))
            | inr same ↦ (
              omega (arith, same),
              ap (slice_index last) (sym same) ∙ sym class_is ∙ sym e,
            )
          ],
          λ w. subst (λ xs. Contains xs x) (sym here) (elim (cases_eq x n) [
            | inl same ↦ subst (Contains (row lists d ++ n ∷ [])) (sym same) (Contains-push (row lists d) n)
            | inr other ↦ Contains-append_left (row lists d) (n ∷ []) x ((h.hold d x).1 (
              (let l = w.0 in omega (arith, l, other)),
              w.1,
            ))
          ]),
        )
    | inr e ↦ (
      λ m. (let w = (h.hold d x).0 (subst (λ xs. Contains xs x) (adds.others d e) m) in
          (let l = w.0 in omega (arith, l), w.1)),
      λ w. subst (λ xs. Contains xs x) (sym (adds.others d e)) ((h.hold d x).1 (
        elim (cases_eq x n) [
          | inl same ↦ absurd (e (sym w.1 ∙ ap (slice_index last) same ∙ sym class_is))
          | inr other ↦ (let l = w.0 in omega (arith, l, other))
        ],
        w.1,
      )),
    )
  ];
}

-- the places of two lists, one behind the other
pub merged_are : (one other both : List ℕ) (round number : ℕ) (old new : List Pair) → both ≡ other ++ one
    → new ≡ old ++ pairs_of round number one → AreMerged one other both round number old new
merged_are one other both round number old new is noted = record {
  held = λ x. (
    λ h. elim (Contains-append_cases other one x (subst (λ xs. Contains xs x) is h)) [
      | inl k ↦ inr k
      | inr k ↦ inl k
    ],
    λ h. subst (λ xs. Contains xs x) (sym is) (elim h [
      | inl k ↦ Contains-append_right other one x k
      | inr k ↦ Contains-append_left other one x k
    ]),
  );
  moved = one;
  moved_is = inl refl;
  noted = noted;
}

pub merged_back : (one other both : List ℕ) (round number : ℕ) (old new : List Pair)
    → AreMerged other one both round number old new → AreMerged one other both round number old new
merged_back one other both round number old new h = record {
  held = λ x. (
    λ m. elim ((h.held x).0 m) [ inl k ↦ inr k | inr k ↦ inl k ],
    λ m. (h.held x).1 (elim m [ inl k ↦ inr k | inr k ↦ inl k ]),
  );
  moved = h.moved;
  moved_is = elim h.moved_is [ inl k ↦ inr k | inr k ↦ inl k ];
  noted = h.noted;
}

-- two clauses of one answer
pub if_both : {X Y : Type 0} (r : Result X Y) (P Q R : X → Type 0) → ((x : X) → P x → Q x → R x) → IfOk r P → IfOk r Q
    → IfOk r R
if_both (Ok x) P Q R f p q = f x p q
if_both (Err y) P Q R f p q = tt

-- the list of a class goes over to that of its parent
pub undone_is : (b : Birth) (number : ℕ) (lists : List (Vec ℕ)) (none spare child parent both : Vec ℕ)
    (old new : List Pair) → b.class < length lists → b.parent < length lists → b.class ≢ b.parent → none.items ≡ []
    → child ≡ get_or lists b.class child → parent ≡ get_or (set lists b.class none) b.parent parent
    → AreMerged child.items parent.items both.items b.round number old new
    → Undoes b number lists (set (set (set lists b.class none) b.parent spare) b.parent both) old new
undone_is b number lists none spare child parent both old new l m apart none_is child_is parent_is merged =
    let one : List (Vec ℕ) = set lists b.class none in
    let two : List (Vec ℕ) = set one b.parent spare in
    let e = length-set lists b.class none in
    let f = length-set one b.parent spare in
    let g = length-set two b.parent both in
    let child_row : child.items ≡ row lists b.class =
    ap (λ (w : Vec ℕ). w.items) child_is ∙ sym (row_is lists b.class child l) in
    let parent_row : parent.items ≡ row lists b.parent =
    ap (λ (w : Vec ℕ). w.items) parent_is ∙ sym (row_is one b.parent parent (omega (arith, e, m)))
    ∙ row_other lists b.class b.parent none (λ p. apart (sym p)) in
    let both_row : both.items ≡ row (set two b.parent both) b.parent =
    sym (row_set two b.parent both (omega (arith, e, f, m))) in
    record {
      each = omega (arith, e, f, g);
      class_row = row_other two b.parent b.class both apart ∙ row_other one b.parent b.class spare apart
          ∙ row_set lists b.class none l ∙ none_is;
      others = λ d n p. row_other two b.parent d both p ∙ row_other one b.parent d spare p
          ∙ row_other lists b.class d none n;
      merged = subst (λ xs. AreMerged xs (row lists b.parent) (row (set two b.parent both) b.parent) b.round number old new)
          child_row
          (subst (λ xs. AreMerged child.items xs (row (set two b.parent both) b.parent) b.round number old new) parent_row
          (subst (λ xs. AreMerged child.items parent.items xs b.round number old new) both_row merged));
    }
