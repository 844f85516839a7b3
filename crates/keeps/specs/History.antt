-- A keep's history: the puts that it accepted, in order, and the groups that are retired. Its bytes follow from it.
use Rattle.std.specs.Prelude.{◌≡◌, ℕ, Bool, true, false, cond, List, [], ◌∷◌, ◌++◌, map, Ok, Err, Result, ◌==◌, nat_eq}

pub record Put : Type 0 where
  pub group : ℕ
  pub cell : ℕ
  pub locator : ℕ

-- No group is retired.
abbrev pub none_gone : ℕ → Bool
none_gone i = false

-- One put more, where it was accepted.
abbrev pub with_put : {A E : Type 0} → Result A E → List Put → Put → List Put
with_put (Ok slot) puts p = puts ++ (p ∷ [])
with_put (Err f) puts p = puts

-- One retired group more, where the strike was accepted.
abbrev pub with_gone : {A E : Type 0} → Result A E → (gone : ℕ → Bool) (group : ℕ) → ℕ → Bool
with_gone (Ok n) gone group i = cond (i == group) true (gone i)
with_gone (Err f) gone group i = gone i

-- What is left of a put: without its cell and locator where its group is retired.
abbrev pub erased : (gone : ℕ → Bool) → Put → Put
erased gone p = cond (gone p.group) (record { group = p.group; cell = 0; locator = 0 }) p

-- Two lists of puts differ at most in the cells and locators of retired groups.
abbrev pub Alike : (gone : ℕ → Bool) (puts others : List Put) → Type 0
Alike gone puts others = map (erased gone) puts ≡ map (erased gone) others

-- Two lists of puts differ at most in the cells and locators of one group.
abbrev pub AlikeBut : (group : ℕ) (puts others : List Put) → Type 0
AlikeBut group puts others = Alike (λ i. nat_eq i group) puts others

-- Bytes by numbers, puts and retired groups in which the cells and locators of a retired group have left no trace.
abbrev pub Forgets : (drawn : List ℕ → List Put → (ℕ → Bool) → List ℕ) → Type 0
Forgets drawn = (numbers : List ℕ) (puts : List Put) (gone : ℕ → Bool) → drawn numbers (map (erased gone) puts) gone ≡ drawn numbers puts gone
