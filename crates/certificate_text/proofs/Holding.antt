-- What was read is held by a certificate, and how the lines of a table grow.
use Rattle.std.proofs.Common.{◌≡◌, ℕ, zero, suc, ◌+◌, ◌<◌, ◌^◌, List, [], ◌∷◌, ◌++◌, length, map, slice_get, Some, None, refl, sym, ap, ◌∙◌, subst, arith, ◌⊎◌, inl, inr, append-nil, append_assoc, length-append}
use Rattle.std.specs.Prelude.{All}
use Rattle.value_equality.specs.Tables.{Origin, split, Table}
use Rattle.value_equality.specs.Standard.{IsParent, IsWellFormed}
use Rattle.certificate_text.specs.Texts.{rounds_line, class_line, class_lines, member_line, table_lines, IsHeld}
use Rattle.certificate_text.specs.steps.ComputedParts.{Fits, with_class, with_rounds, AddsClass, AddsMember, Adds}

some_once : {A : Type 0} (x y : A) → Some x ≡ Some y → x ≡ y
some_once x y e = cc

pub get_front : {A : Type 0} (xs ys : List A) (i : ℕ) (x : A) → slice_get xs i ≡ Some x → slice_get (xs ++ ys) i ≡ Some x
get_front [] ys i x e = absurd (cc)
get_front (y ∷ xs) ys zero x e = e
get_front (y ∷ xs) ys (suc i) x e = get_front xs ys i x e

pub get_back : {A : Type 0} (xs ys : List A) (i : ℕ) (x : A) → slice_get (xs ++ ys) i ≡ Some x → i < length xs
    → slice_get xs i ≡ Some x
get_back [] ys i x e lt = absurd (omega (arith, lt))
get_back (y ∷ xs) ys zero x e lt = e
get_back (y ∷ xs) ys (suc i) x e lt = get_back xs ys i x e (omega (arith, lt))

pub get_next : {A : Type 0} (xs ys : List A) (x : A) → slice_get (xs ++ (x ∷ ys)) (length xs) ≡ Some x
get_next [] ys x = refl
get_next (y ∷ xs) ys x = get_next xs ys x

get_push : {A : Type 0} (xs : List A) (o : A) (i : ℕ) (x : A) → slice_get (xs ++ (o ∷ [])) i ≡ Some x
    → (slice_get xs i ≡ Some x) ⊎ ((i ≡ length xs) × (o ≡ x))
get_push [] o zero x e = inr (refl, some_once o x e)
get_push [] o (suc i) x e = absurd (cc)
get_push (y ∷ xs) o zero x e = inl e
get_push (y ∷ xs) o (suc i) x e = further (get_push xs o i x e)
  where
    further : (slice_get xs i ≡ Some x) ⊎ ((i ≡ length xs) × (o ≡ x))
        → (slice_get xs i ≡ Some x) ⊎ ((suc i ≡ suc (length xs)) × (o ≡ x))
    further (inl a) = inl a
    further (inr a) = inr (ap suc a.0, a.1)

all_push : {A : Type 0} (P : A → Type 0) (xs : List A) (x : A) → All P xs → P x → All P (xs ++ (x ∷ []))
all_push P [] x h p zero d lt = p
all_push P [] x h p (suc k) d lt = absurd (omega (arith, lt))
all_push P (y ∷ xs) x h p zero d lt = h 0 d (omega arith)
all_push P (y ∷ xs) x h p (suc k) d lt = all_push P xs x (λ j e l. h (suc j) e (omega (arith, l))) p k d
    (omega (arith, lt))

pub empty_held : (t : Table) (k : ℕ) → t.classes ≡ [] → t.members ≡ [] → k < 2 ^ 32 → IsHeld (with_rounds t k)
empty_held t k c m lt = record {
  well_formed = record {
    parents = (λ n p r e. absurd (none (sym (ap (λ x. slice_get x n) c) ∙ e)));
    declared = subst (All (λ x. x.1 < length t.classes)) (sym m) (λ i d l. absurd (omega (arith, l)));
  };
  few_rounds = lt;
  few_classes = subst (λ x. length x < 2 ^ 32) (sym c) (omega arith);
  names = subst (All (λ x. x.0 < 2 ^ 64)) (sym m) (λ i d l. absurd (omega (arith, l)));
}
  where
    none : {A : Type 0} {x : A} → None ≡ Some x → ⊥
    none e = absurd (cc)

parent_lifts : (t : Table) (o : Origin) (c p r : ℕ) → IsParent t c p r → IsParent (with_class t o) c p r
parent_lifts t o c p r i = record {
  before = i.before;
  origin = i.origin;
  origin_is = get_front t.classes (o ∷ []) p i.origin i.origin_is;
  earlier = i.earlier;
  in_time = i.in_time;
}

parent_with : (t : Table) (o u : Origin) (c p r : ℕ) → c ≡ length t.classes → o ≡ split p r → Fits t o
    → IsParent (with_class t u) c p r
parent_with t o u c p r ce oe f =
    let i : IsParent t (length t.classes) p r = subst (Fits t) oe f in
    parent_lifts t u c p r (subst (λ n. IsParent t n p r) (sym ce) i)

class_parents : (t : Table) (o : Origin) → IsWellFormed t → Fits t o → (c p r : ℕ)
    → slice_get (t.classes ++ (o ∷ [])) c ≡ Some (split p r) → IsParent (with_class t o) c p r
class_parents t o w f c p r e = by (get_push t.classes o c (split p r) e)
  where
    by : (slice_get t.classes c ≡ Some (split p r)) ⊎ ((c ≡ length t.classes) × (o ≡ split p r))
        → IsParent (with_class t o) c p r
    by (inl a) = parent_lifts t o c p r (w.parents c p r a)
    by (inr a) = parent_with t o o c p r a.0 a.1 f

pub class_held : (t : Table) (l : List ℕ) (u : Table) → IsHeld t → AddsClass t l u → IsHeld u
class_held t l u h a = subst IsHeld (sym a.table_is) (record {
  well_formed = record {
    parents = class_parents t a.origin h.well_formed a.fits;
    declared = subst (All (λ m. m.1 < length (t.classes ++ (a.origin ∷ [])))) (sym a.no_member)
        (λ i d l. absurd (omega (arith, l)));
  };
  few_rounds = h.few_rounds;
  few_classes = omega (arith, a.few, length-append t.classes (a.origin ∷ []));
  names = h.names;
})

pub member_held : (t : Table) (l : List ℕ) (u : Table) → IsHeld t → AddsMember t l u → IsHeld u
member_held t l u h a = subst IsHeld (sym a.table_is) (record {
  well_formed = record {
    parents = (λ c p r e. let i = h.well_formed.parents c p r e in record {
      before = i.before;
      origin = i.origin;
      origin_is = i.origin_is;
      earlier = i.earlier;
      in_time = i.in_time;
    });
    declared = all_push (λ m. m.1 < length t.classes) t.members a.member h.well_formed.declared a.declared;
  };
  few_rounds = h.few_rounds;
  few_classes = h.few_classes;
  names = all_push (λ m. m.0 < 2 ^ 64) t.members a.member h.names a.short;
})

pub adds_held : (t : Table) (l : List ℕ) (u : Table) → IsHeld t → Adds t l u → IsHeld u
adds_held t l u h (inl a) = class_held t l u h a
adds_held t l u h (inr a) = member_held t l u h a

-- lines grow at their end
class_lines_push : (n : ℕ) (os : List Origin) (o : Origin) → class_lines n (os ++ (o ∷ [])) ≡ class_lines n os
    ++ (class_line (n + length os) o ∷ [])
class_lines_push n [] o = let at : n ≡ n + 0 = omega arith in ap (λ k. class_line k o ∷ []) at
class_lines_push n (u ∷ os) o =
    let at : suc n + length os ≡ n + suc (length os) = omega arith in
    ap (λ ls. class_line n u ∷ ls) (class_lines_push (suc n) os o ∙ ap (λ k. class_lines (suc n) os ++ (class_line k o ∷ []))
    at)

map_push : (ms : List (ℕ × ℕ)) (m : ℕ × ℕ) → map member_line (ms ++ (m ∷ [])) ≡ map member_line ms ++ (member_line m ∷ [])
map_push [] m = refl
map_push (n ∷ ms) m = ap (λ ls. member_line n ∷ ls) (map_push ms m)

no_lines : (ms : List (ℕ × ℕ)) (ls : List (List ℕ)) → ms ≡ [] → ls ++ map member_line ms ≡ ls
no_lines ms ls e = ap (λ x. ls ++ map member_line x) e ∙ append-nil ls

pub class_grows : (t : Table) (l : List ℕ) (u : Table) → AddsClass t l u → table_lines u ≡ table_lines t ++ (l ∷ [])
class_grows t l u a =
    let zero_more : 0 + length t.classes ≡ length t.classes = omega arith in
    let grown = class_lines_push 0 t.classes a.origin ∙ ap (λ k. class_lines 0 t.classes ++ (class_line k a.origin ∷ []))
    zero_more ∙ ap (λ x. class_lines 0 t.classes ++ (x ∷ [])) (sym a.line_is) in
    ap table_lines a.table_is ∙ ap (λ ls. rounds_line t.rounds ∷ ls)
    (no_lines t.members (class_lines 0 (t.classes ++ (a.origin ∷ []))) a.no_member ∙ grown
    ∙ ap (λ ls. ls ++ (l ∷ [])) (sym (no_lines t.members (class_lines 0 t.classes) a.no_member)))

pub member_grows : (t : Table) (l : List ℕ) (u : Table) → AddsMember t l u → table_lines u ≡ table_lines t ++ (l ∷ [])
member_grows t l u a =
    ap table_lines a.table_is ∙ ap (λ ls. rounds_line t.rounds ∷ ls)
    (ap (λ ls. class_lines 0 t.classes ++ ls) (map_push t.members a.member
    ∙ ap (λ x. map member_line t.members ++ (x ∷ [])) (sym a.line_is))
    ∙ sym (append_assoc (class_lines 0 t.classes) (map member_line t.members) (l ∷ [])))

pub adds_grow : (t : Table) (l : List ℕ) (u : Table) → Adds t l u → table_lines u ≡ table_lines t ++ (l ∷ [])
adds_grow t l u (inl a) = class_grows t l u a
adds_grow t l u (inr a) = member_grows t l u a
