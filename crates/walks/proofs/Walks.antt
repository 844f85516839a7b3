-- A walk at one cell is what is seen there, or the walk from the next cell on.
use Rattle.std.proofs.Common.{◌≡◌, ℕ, ◌+◌, ◌*◌, ◌<◌, List, ◌∷◌, length, drop, get_or, refl, ap, sym, ◌∙◌, arith}
use Rattle.std.proofs.lemmas.List.{drop_more}
use Rattle.std.proofs.lemmas.Nat.{mul-add-lt}
use Rattle.law.specs.Archive.{Cell, Entry, Option, Settings, blank, entry_of, if_key, none, probe, some, stop_or, walk, written}
use Rattle.law.specs.declared.answer.Stop.{Stop}
use Rattle.walks.specs.declared.look.Seen.{Seen}
use Rattle.walks.specs.Looks.{seen_entry, seen_in, stop_for}

stop_seen : (found : Option Entry) (c p : ℕ) (rest : Stop) → stop_or found c p rest ≡ stop_for (seen_entry found) c p rest
stop_seen none c p rest = refl
stop_seen (some e) c p rest = refl

probe_seen : (σ : Settings) (key : List ℕ) (held : Cell) (c p : ℕ) (rest : Stop) → probe σ key held c p rest ≡ stop_for (seen_in σ.kind σ.admissible key held) c p rest
probe_seen σ key blank c p rest = refl
probe_seen σ key (written bytes) c p rest = stop_seen (if_key key (entry_of σ bytes)) c p rest

-- From the cell at a place of the path on.
pub walk_seen : (σ : Settings) (cells : ℕ → Cell) (key path : List ℕ) (n c : ℕ) (seen : Seen) → n < length path → c ≡ get_or path n 0 → seen ≡ seen_in σ.kind σ.admissible key (cells c) → walk σ cells key (drop n path) n ≡ stop_for seen c (n + 1) (walk σ cells key (drop (n + 1) path) (n + 1))
walk_seen σ cells key path n c seen there is sees =
    ap (λ cs. walk σ cells key cs n) (drop_more path n 0 there ∙ ap (λ d. d ∷ drop (n + 1) path) (sym is))
    ∙ probe_seen σ key (cells c) c (n + 1) (walk σ cells key (drop (n + 1) path) (n + 1))
    ∙ ap (λ s. stop_for s c (n + 1) (walk σ cells key (drop (n + 1) path) (n + 1))) (sym sees)

-- A try of a level stands on a path of so many levels and tries.
pub try_inside : (depth width level j long : ℕ) → long ≡ depth * width → level < depth → j < width → level * width + j < long
try_inside depth width level j long e low inside = omega (arith, mul-add-lt level width j depth low inside)

-- From the cell of a try of a level on, after all tries before it; w is the width, as the program has it.
pub walk_at_try :
    (σ : Settings) (cells : ℕ → Cell) (key path : List ℕ) (depth width w level j probes c tried : ℕ) (seen : Seen)
    → length path ≡ depth * width → w ≡ width → probes ≡ level * w + j → level < depth → j < w
    → c ≡ tried → tried ≡ get_or path (level * width + j) 0 → seen ≡ seen_in σ.kind σ.admissible key (cells c)
    → walk σ cells key (drop probes path) probes ≡ stop_for seen c (probes + 1) (walk σ cells key (drop (probes + 1) path) (probes + 1))
walk_at_try σ cells key path depth width w level j probes c tried seen long wide at low inside gives stands sees =
    let place : probes ≡ level * width + j = at ∙ ap (λ n. level * n + j) wide in
    walk_seen σ cells key path probes c seen
    (omega (arith, try_inside depth width level j (length path) long low (omega arith)))
    (gives ∙ stands ∙ ap (λ n. get_or path n 0) (sym place))
    sees
