-- What stands before the values of instances.
use Rattle.std.specs.Prelude.{◌≡◌, ℕ, suc, ◌+◌, ◌-◌, ◌<◌, ◌≤◌, ◌^◌, List, [], ◌∷◌, ◌++◌, length, take, drop, Option, None, get_or}
use Rattle.std.specs.List.{All, repeat}
use Rattle.std.specs.Option.{unwrap_or}
use Rattle.std.proofs.Common.{sym, ap, subst, ◌∙◌, refl, zero, arith, replicate, append_assoc}
use Rattle.std.proofs.lemmas.List.Elements.{All-push}
use Rattle.std.proofs.lemmas.List.{map-append, take_all, take_more, drop_more, length-replicate, length-append, length-take-le}
use Rattle.value_equality.specs.declared.row.RowHead.{RowHead}
use Rattle.value_equality.specs.Views.{head_names}
use Rattle.step_exchange.specs.declared.section.Section.{Section}
use Rattle.step_exchange.specs.Sections.{CountsTo}
use Rattle.typed_populations.specs.Rows.{section_numbers}
use Rattle.typed_populations.specs.ValueOrder.{heads_made}

repeated : {A : Type 0} (n : ℕ) (x : A) → repeat n (x ∷ []) ≡ replicate n x
repeated zero x = refl
repeated (suc n) x = ap (λ l. x ∷ l) (repeated n x)

-- so many rows have the numbers of their sections, and these sections are left
pub record Numbered (xs : List Section) (k : ℕ) (numbers : List ℕ) : Type 0 where
  pub whole : numbers ++ section_numbers (length numbers) k (drop k xs) ≡ section_numbers 0 0 xs
  pub rising : (n : ℕ) × CountsTo (length numbers) (drop k xs) n

pub numbered-first : (xs : List Section) → ((n : ℕ) × CountsTo 0 xs n) → Numbered xs 0 []
numbered-first xs h = record { whole = refl; rising = h }

-- one section more
pub numbered-next : (xs : List Section) (k : ℕ) (x : Section) (old new : List ℕ) → k < length xs → x ≡ get_or xs k x
    → Numbered xs k old → new ≡ take x.past old ++ replicate (x.past - length old) k → Numbered xs (k + 1) new
numbered-next xs k x old new lt at h is = record {
  whole = (λ i. is-new i ++ section_numbers (long i) (more i) (drop (k + 1) xs))
      ∙ append_assoc old (repeat (x.past - length old) (k ∷ [])) (section_numbers x.past (suc k) (drop (k + 1) xs))
      ∙ ap (λ l. old ++ section_numbers (length old) k l) (sym next)
      ∙ h.whole;
  rising = (h.rising.0, subst (λ m. CountsTo m (drop (k + 1) xs) h.rising.0) (sym long) after.1);
}
  where
    next : drop k xs ≡ x ∷ drop (k + 1) xs
    next = drop_more xs k x lt ∙ ap (λ y. y ∷ drop (k + 1) xs) (sym at)

    after : (length old ≤ x.past) × CountsTo x.past (drop (k + 1) xs) h.rising.0
    after = subst (λ l. CountsTo (length old) l h.rising.0) next h.rising.1

    is-new : new ≡ old ++ repeat (x.past - length old) (k ∷ [])
    is-new =
        is ∙ ap (λ l. l ++ replicate (x.past - length old) k) (take_all x.past old after.0)
        ∙ ap (λ l. old ++ l) (sym (repeated (x.past - length old) k))

    long : length new ≡ x.past
    long =
        let joined = ap length is-new ∙ length-append old (repeat (x.past - length old) (k ∷ [])) in
        let added = ap length (repeated (x.past - length old) k) ∙ length-replicate (x.past - length old) k in
        let le = after.0 in
        omega (arith, joined, added, le)

    more : k + 1 ≡ suc k
    more = omega arith

-- heads that grow by one
heads-joined : (formless : ℕ) (ks ys : List ℕ) (ns : List (Option ℕ)) (k y : ℕ) (n : Option ℕ) → length ks ≡ length ys
    → length ns ≡ length ys → heads_made formless (ks ++ k ∷ []) (ys ++ y ∷ []) (ns ++ n ∷ []) ≡ heads_made formless ks ys
    ns ++ record { name = y; section = k; type_list = unwrap_or n formless } ∷ []
heads-joined formless [] [] [] k y n e f = refl
heads-joined formless [] [] (m ∷ ns) k y n e f = absurd (omega (arith, f))
heads-joined formless [] (b ∷ ys) ns k y n e f = absurd (omega (arith, e))
heads-joined formless (a ∷ ks) [] ns k y n e f = absurd (omega (arith, e))
heads-joined formless (a ∷ ks) (b ∷ ys) [] k y n e f = absurd (omega (arith, f))
heads-joined formless (a ∷ ks) (b ∷ ys) (m ∷ ns) k y n e f =
    ap (λ hs. record { name = b; section = a; type_list = unwrap_or m formless } ∷ hs)
    (heads-joined formless ks ys ns k y n (omega (arith, e)) (omega (arith, f)))

pub heads-next : (formless : ℕ) (ks ys : List ℕ) (ns : List (Option ℕ)) (i : ℕ) (old new : List RowHead)
    → length ks ≡ length ys → length ns ≡ length ys → i < length ys
    → old ≡ heads_made formless (take i ks) (take i ys) (take i ns)
    → new ≡ old ++ record {
      name = get_or ys i 0;
      section = get_or ks i 0;
      type_list = unwrap_or (get_or ns i None) formless;
    } ∷ []
    → new ≡ heads_made formless (take (i + 1) ks) (take (i + 1) ys) (take (i + 1) ns)
heads-next formless ks ys ns i old new sections forms lt all is =
    let first : i < length ks = omega (arith, sections, lt) in
    let third : i < length ns = omega (arith, forms, lt) in
    let long-ks = length-take-le i ks (omega (arith, first)) in
    let long-ys = length-take-le i ys (omega (arith, lt)) in
    let long-ns = length-take-le i ns (omega (arith, third)) in
    rw (take_more ks i 0 first, take_more ys i 0 lt, take_more ns i None third)
    (is
    ∙ ap (λ hs. hs ++ record {
      name = get_or ys i 0;
      section = get_or ks i 0;
      type_list = unwrap_or (get_or ns i None) formless;
    } ∷ []) all
    ∙ sym (heads-joined formless (take i ks) (take i ys) (take i ns) (get_or ks i 0) (get_or ys i 0) (get_or ns i None)
    (long-ks ∙ sym long-ys) (long-ns ∙ sym long-ys)))

-- names of 64 bits, one more
pub range-more : (old new : List RowHead) (h : RowHead) → h.name < 2 ^ 64 → All (λ y. y < 2 ^ 64) (head_names old)
    → new ≡ old ++ h ∷ [] → All (λ y. y < 2 ^ 64) (head_names new)
range-more old new h small all is =
    subst (All (λ y. y < 2 ^ 64)) (sym (ap head_names is ∙ map-append (λ (k : RowHead). k.name) old (h ∷ [])))
    (All-push (λ y. y < 2 ^ 64) (head_names old) h.name all small)
