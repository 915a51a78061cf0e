-- The names in a rule that is checked mean one attribute each.
use Rattle.std.specs.Prelude.{◌≡◌, ◌≢◌, Bool, true, false, List, [], ◌∷◌, bytes_eq, ◌⊎◌}
use Rattle.std.proofs.Common.{refl, inl, inr, sym, ap, subst, ◌∙◌}
use Rattle.std.proofs.lemmas.Slice.Eq.{bytes_eq-Decides}
use Rattle.express_syntax.specs.Schemas.{Schema, Attribute, own, redeclared}
use Rattle.schema_semantics.specs.declared.unchecked.Reason.TheVariants as reasons
use Rattle.schema_semantics.specs.Names.{Name, OneOf, Among, Has, Declares}
use Rattle.schema_semantics.specs.Attributes.{Place}
use Rattle.schema_semantics.specs.Parts.{NamesAttribute, NamesOther, NamesNotOne}
use Rattle.conformance.specs.Rules.{MeansAttribute, NamesPlace}
use Rattle.conformance.specs.RuleLaws.{CheckedNamesMeanOne}

one-of : {A : Type 0} (P : A → Type 0) (xs : List A) (x : A) → Among x xs → P x → OneOf P xs
one-of P [] x m p = elim m [ ]
one-of P (y ∷ xs) x (inl e) p = inl (subst P (sym e) p)
one-of P (y ∷ xs) x (inr m) p = inr (one-of P xs x m p)

one-name : (p q : Name) → (p ≢ q → ⊥) → p ≡ q
one-name p q f = by (bytes_eq p q) refl
  where
    by : (b : Bool) → bytes_eq p q ≡ b → p ≡ q
    by true e = (bytes_eq-Decides p q).0 e
    by false e = absurd (f differ)
      where
        differ : p ≡ q → ⊥
        differ h = let wrong : true ≡ false = sym ((bytes_eq-Decides p q).1 h) ∙ e in absurd (cc)

abbrev place : Name → Name → Place
place p a = (p, a)

one-place : (p q a b : Name) → p ≡ q → a ≡ b → place p a ≡ place q b
one-place p q a b e f = subst (λ r. place p a ≡ place r b) e (ap (place p) f)

module _ (s : Schema) (e : Name) where
  means-so : (x : Attribute) (p a : Name) → NamesAttribute s e x p a → MeansAttribute s e x p a
  means-so (own n) p a (same, held) = (same, subst (Has s e p) same held)
  means-so (redeclared q n) p a (same, kind, (here, held, which)) =
      subst (λ b. (n ≡ b) × Has s q p b × (Declares s q b → p ≡ q)) same (refl, held, first which)
    where
      first : (p ≡ q) ⊎ ((r : Name) → Has s q r n → r ≡ p) → Declares s q n → p ≡ q
      first (inl is) d = is
      first (inr only) d = sym (only q (inl refl, d))

  -- two declare what one name means
  own-is-one : (n p q a b : Name) → (NamesNotOne s e (own n) → ⊥) → MeansAttribute s e (own n) p a
      → MeansAttribute s e (own n) q b → p ≡ q
  own-is-one n p q a b sure (same, h) (alike, k) =
      one-name p q (λ differ. sure (inr (
        p,
        q,
        n,
        (refl, subst (Has s e p) (sym same) h),
        (refl, subst (Has s e q) (sym alike) k),
        differ,
      )))

  first-of : (g n p a : Name) → MeansAttribute s e (redeclared g n) p a → Has s g p n × (Declares s g n → p ≡ g)
  first-of g n p a (same, has, own-first) = subst (λ b. Has s g p b × (Declares s g b → p ≡ g)) (sym same) (has, own-first)

  group-is-one : (g n p q a b : Name) → (NamesNotOne s e (redeclared g n) → ⊥)
      → MeansAttribute s e (redeclared g n) p a → MeansAttribute s e (redeclared g n) q b → p ≡ q
  group-is-one g n p q a b sure h k = one-name p q (λ differ. sure (inl (none differ)))
    where
      none : p ≢ q → (r c : Name) → NamesAttribute s e (redeclared g n) r c → ⊥
      none differ r c (same, kind, (here, held, inl is)) =
          let d : Declares s g n = subst (λ y. Declares s y n) is held.1 in
          differ ((first-of g n p a h).1 d ∙ sym ((first-of g n q b k).1 d))
      none differ r c (same, kind, (here, held, inr only)) =
          differ (only p (first-of g n p a h).0 ∙ sym (only q (first-of g n q b k).0))

  one-declarer : (x : Attribute) (p q a b : Name) → (NamesNotOne s e x → ⊥) → MeansAttribute s e x p a
      → MeansAttribute s e x q b → p ≡ q
  one-declarer (own n) = own-is-one n
  one-declarer (redeclared g n) = group-is-one g n

  one-attribute : (x : Attribute) (p q a b : Name) → MeansAttribute s e x p a → MeansAttribute s e x q b → a ≡ b
  one-attribute (own n) p q a b h k = sym h.0 ∙ k.0
  one-attribute (redeclared g n) p q a b h k = sym h.0 ∙ k.0

pub checked_names_mean_one : CheckedNamesMeanOne
checked_names_mean_one s x u rule checked a m = (some, one)
  where
    sure : NamesNotOne s x.entity a → ⊥
    sure h = rule.checked.0 checked reasons.Name (one-of (NamesNotOne s x.entity) x.attributes a m h)

    plain : NamesOther s x.entity a → ⊥
    plain h = rule.checked.0 checked reasons.Profile (one-of (NamesOther s x.entity) x.attributes a m h)

    some : ((p : Place) → NamesPlace s x.entity a p → ⊥) → ⊥
    some none =
        sure (inl (λ p b h. plain (p, b, h, (λ d. none (p, b) (means-so s x.entity a p b h, d)))))

    one : (p q : Place) → NamesPlace s x.entity a p → NamesPlace s x.entity a q → p ≡ q
    one (p, b) (q, c) h k =
        one-place p q b c (one-declarer s x.entity a p q b c sure h.0 k.0)
        (one-attribute s x.entity a p q b c h.0 k.0)
