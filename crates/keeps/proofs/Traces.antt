-- A struck group has left no trace: puts that differ only in its cells and locators give equal bytes.
use Rattle.std.proofs.Common.{◌≡◌, ℕ, Bool, true, cond, eqb, List, [], ◌∷◌, map, is_ok, Ok, Err, Result, sym, refl, ap, ◌∙◌, inl, inr}
use Rattle.std.proofs.lemmas.Bool.{cases_Bool}
use Rattle.keeps.specs.History.{Put, Alike, AlikeBut, Forgets, erased, with_gone}

-- The groups retired once an accepted strike has retired one more.
abbrev pub and_gone : (gone : ℕ → Bool) (group : ℕ) → ℕ → Bool
and_gone gone group i = cond (eqb i group) true (gone i)

pub gone_accepted : {A E : Type 0} (r : Result A E) (gone : ℕ → Bool) (group : ℕ) → is_ok r ≡ true → with_gone r gone group ≡ and_gone gone group
gone_accepted (Ok n) gone group ok = refl
gone_accepted (Err f) gone group ok = absurd cc

module _ (gone : ℕ → Bool) (group : ℕ) where
  erased_anyway : (p : Put) → erased (and_gone gone group) (erased (λ i. eqb i group) p) ≡ erased (and_gone gone group) p
  erased_anyway p = elim (cases_Bool (eqb p.group group)) [ inl t ↦ simp t | inr f ↦ simp f ]

  all_erased_anyway : (puts : List Put) → map (erased (and_gone gone group)) (map (erased (λ i. eqb i group)) puts) ≡ map (erased (and_gone gone group)) puts
  all_erased_anyway [] = refl
  all_erased_anyway (p ∷ puts) = let e = erased_anyway p in let es = all_erased_anyway puts in cc

  -- puts that differ only in one group differ only in retired ones, once it is retired
  pub alike_struck : (puts others : List Put) → AlikeBut group puts others → Alike (and_gone gone group) puts others
  alike_struck puts others alike = sym (all_erased_anyway puts) ∙ ap (map (erased (and_gone gone group))) alike ∙ all_erased_anyway others

-- Where puts are alike, the bytes drawn from them are equal.
pub drawn_alike : (drawn : List ℕ → List Put → (ℕ → Bool) → List ℕ) → Forgets drawn → (numbers : List ℕ) (puts others : List Put) (gone : ℕ → Bool) → Alike gone puts others → drawn numbers puts gone ≡ drawn numbers others gone
drawn_alike drawn forgets numbers puts others gone alike =
    sym (forgets numbers puts gone) ∙ ap (λ ps. drawn numbers ps gone) alike ∙ forgets numbers others gone
