-- What a line adds to a table.
use Rattle.std.proofs.Common.{◌≡◌, ℕ, ◌<◌, ◌≤◌, ◌^◌, Bool, true, false, List, length, get_or, MatchBool, inl, inr, refl, sym, ap, ◌∙◌, subst, arith}
use Rattle.std.specs.Prelude.{codes}
use Rattle.std.proofs.Common.{slice_get, Some}
use Rattle.value_equality.specs.Standard.{IsParent}
use Rattle.value_equality.specs.Tables.{Origin, began, Table}
use Rattle.certificate_text.specs.Texts.{rounds_line}
use Rattle.certificate_text.specs.steps.ComputedParts.{with_rounds, AddsClass, AddsMember, Adds, Reading, Takes}
use Rattle.certificate_text.specs.declared.reader.Part.{Part}
use Rattle.certificate_text.specs.declared.reader.Part.TheVariants.{FirstRounds, First, SecondRounds, Second}

-- an answer whether a line is taken
abbrev pub Answers : {A : Type 0} → Bool → (A → Type 0) → A → Type 0
Answers {A} b P u = MatchBool b (P u) ((v : A) → P v → ⊥)

pub other_sort : {A : Type 0} (P Q : A → Type 0) (b : Bool) (u : A) → ((v : A) → P v → Q v)
    → ((v : A) → Q v → P v) → Answers b P u → Answers b Q u
other_sort P Q true u to from h = to u h
other_sort P Q false u to from h = λ v q. h v (from v q)

first_of_member : (t : Table) (l : List ℕ) (u : Table) → AddsMember t l u → get_or l 0 0 ≡ 35
first_of_member t l u a = ap (λ x. get_or x 0 0) a.line_is

first_of_class : (t : Table) (l : List ℕ) (u : Table) → AddsClass t l u → get_or l 0 0 ≡ 67
first_of_class t l u a = ap (λ x. get_or x 0 0) a.line_is

class_alone : (t : Table) (l : List ℕ) (u : Table) → get_or l 0 0 ≡ 67 → Adds t l u → AddsClass t l u
class_alone t l u f (inl a) = a
class_alone t l u f (inr a) = absurd (omega (arith, f, first_of_member t l u a))

member_alone : (t : Table) (l : List ℕ) (u : Table) → get_or l 0 0 ≡ 35 → Adds t l u → AddsMember t l u
member_alone t l u f (inr a) = a
member_alone t l u f (inl a) = absurd (omega (arith, f, first_of_class t l u a))

pub as_class : (t : Table) (l : List ℕ) (b : Bool) (u : Table) → get_or l 0 0 ≡ 67
    → Answers b (AddsClass t l) u → Answers b (Adds t l) u
as_class t l b u f h = other_sort (AddsClass t l) (Adds t l) b u (λ v a. inl a) (λ v a. class_alone t l v f a) h

pub as_member : (t : Table) (l : List ℕ) (b : Bool) (u : Table) → get_or l 0 0 ≡ 35
    → Answers b (AddsMember t l) u → Answers b (Adds t l) u
as_member t l b u f h = other_sort (AddsMember t l) (Adds t l) b u (λ v a. inr a) (λ v a. member_alone t l v f a) h

-- whether a line is taken decides what is read
taken_first : (s t v : Table) (l : List ℕ) (b : Bool) → (l ≡ codes "table 2" → ⊥) → Answers b (Adds s l) v
    → Answers b (Takes (record { part = First; first = s; second = t }) l) (record { part = First; first = v; second = t })
taken_first s t v l true never h = inr (v, h, refl)
taken_first s t v l false never h = λ b q. refused b q
  where
    refused : (b : Reading) → Takes (record { part = First; first = s; second = t }) l b → ⊥
    refused b (inl q) = never q.0
    refused b (inr q) = h q.0 q.1

taken_second : (s t v : Table) (l : List ℕ) (b : Bool) → (l ≡ codes "end" → ⊥) → Answers b (Adds t l) v
    → Answers b (Takes (record { part = Second; first = s; second = t }) l) (record { part = Second; first = s; second = v })
taken_second s t v l true never h = inr (v, h, refl)
taken_second s t v l false never h = λ b q. refused b q
  where
    refused : (b : Reading) → Takes (record { part = Second; first = s; second = t }) l b → ⊥
    refused b (inl q) = never q.0
    refused b (inr q) = h q.0 q.1

pub in_first : (p q : Part) (s t v : Table) (l : List ℕ) (b : Bool) → p ≡ First → q ≡ p → (l ≡ codes "table 2" → ⊥)
    → Answers b (Adds s l) v
    → Answers b (Takes (record { part = p; first = s; second = t }) l) (record { part = q; first = v; second = t })
in_first p q s t v l b pe qe never h =
    subst (λ x. Answers b (Takes (record { part = x; first = s; second = t }) l) (record {
      part = q;
      first = v;
      second = t;
    })) (sym pe) (subst (λ y. Answers b (Takes (record { part = First; first = s; second = t }) l) (record {
      part = y;
      first = v;
      second = t;
    })) (sym (qe ∙ pe)) (taken_first s t v l b never h))

pub in_second : (p q : Part) (s t v : Table) (l : List ℕ) (b : Bool) → p ≡ Second → q ≡ p → (l ≡ codes "end" → ⊥)
    → Answers b (Adds t l) v
    → Answers b (Takes (record { part = p; first = s; second = t }) l) (record { part = q; first = s; second = v })
in_second p q s t v l b pe qe never h =
    subst (λ x. Answers b (Takes (record { part = x; first = s; second = t }) l) (record {
      part = q;
      first = s;
      second = v;
    })) (sym pe) (subst (λ y. Answers b (Takes (record { part = Second; first = s; second = t }) l) (record {
      part = y;
      first = s;
      second = v;
    })) (sym (qe ∙ pe)) (taken_second s t v l b never h))

-- an answer whether the rounds of a table are taken
abbrev pub AnswersRounds : Bool → List ℕ → Part → Part → Table → Table → Type 0
AnswersRounds b l q next s v = MatchBool b
    ((k : ℕ) × (k < 2 ^ 32) × (l ≡ rounds_line k) × (q ≡ next) × (v ≡ with_rounds s k))
    ((k : ℕ) → k < 2 ^ 32 → l ≡ rounds_line k → ⊥)

rounds_first : (q : Part) (s t v : Table) (l : List ℕ) (b : Bool) → AnswersRounds b l q First s v
    → Answers b (Takes (record { part = FirstRounds; first = s; second = t }) l) (record { part = q; first = v; second = t })
rounds_first q s t v l true h = (h.0, h.1, h.2, λ i. record { part = h.3 i; first = h.4 i; second = t })
rounds_first q s t v l false h = λ b x. h x.0 x.1 x.2

rounds_second : (q : Part) (s t v : Table) (l : List ℕ) (b : Bool) → AnswersRounds b l q Second t v
    → Answers b (Takes (record { part = SecondRounds; first = s; second = t }) l) (record { part = q; first = s; second = v })
rounds_second q s t v l true h = (h.0, h.1, h.2, λ i. record { part = h.3 i; first = s; second = h.4 i })
rounds_second q s t v l false h = λ b x. h x.0 x.1 x.2

pub in_first_rounds : (p q : Part) (s t v : Table) (l : List ℕ) (b : Bool) → p ≡ FirstRounds → AnswersRounds b l q First s v
    → Answers b (Takes (record { part = p; first = s; second = t }) l) (record { part = q; first = v; second = t })
in_first_rounds p q s t v l b e h = subst (λ x. Answers b (Takes (record { part = x; first = s; second = t }) l) (record {
  part = q;
  first = v;
  second = t;
})) (sym e) (rounds_first q s t v l b h)

pub in_second_rounds : (p q : Part) (s t v : Table) (l : List ℕ) (b : Bool) → p ≡ SecondRounds
    → AnswersRounds b l q Second t v
    → Answers b (Takes (record { part = p; first = s; second = t }) l) (record { part = q; first = s; second = v })
in_second_rounds p q s t v l b e h = subst (λ x. Answers b (Takes (record { part = x; first = s; second = t }) l) (record {
  part = q;
  first = s;
  second = v;
})) (sym e) (rounds_second q s t v l b h)

-- where a class comes from that was split off
pub fits_split : (t : Table) (parent round : ℕ) (o : Origin) → slice_get t.classes parent ≡ Some o → parent < length t.classes
    → round ≤ t.rounds → began o < round → IsParent t (length t.classes) parent round
fits_split t parent round o at lt late less = record {
  before = lt;
  origin = o;
  origin_is = at;
  earlier = less;
  in_time = late;
}

pub split_fits : (t : Table) (parent round : ℕ) (o : Origin) → slice_get t.classes parent ≡ Some o
    → IsParent t (length t.classes) parent round → began o < round
split_fits t parent round o at p = let same : p.origin ≡ o = some_once p.origin o (sym p.origin_is ∙ at) in
    subst (λ x. began x < round) same p.earlier
  where
    some_once : (a b : Origin) → Some a ≡ Some b → a ≡ b
    some_once a b e = cc
