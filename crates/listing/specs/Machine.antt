-- What the listing answers to each line, and what it waits for then.
use Rattle.std.specs.Prelude.{◌≡◌, ℕ, ◌≤◌, Bool, true, false, cond, ◌&&◌, List, length, is_ok, Some, None, Ok, Err, vec_items, codes, Option, Result, nat_le, nat_lt}
use Rattle.keys.specs.Codes.{code_text, padded}
use Rattle.keys.specs.Sheets.{largest_sheet, sheet_bytes}
use Rattle.keys.specs.declared.fault.KeyFault.{KeyFault}
use Rattle.keys.specs.declared.fault.KeyFault.TheVariants.{Inadmissible}
use Rattle.lines.specs.declared.fault.LineFault.{LineFault}
use Rattle.lines.specs.Fields.{Reading, and_end, and_next, number_field, text_field, word_field}
use Rattle.lines.specs.Readers.{Unread, all_of, onward}
use Rattle.paths.specs.Rules.{settings_of}
use Rattle.trees.specs.declared.fault.RuleFault.{RuleFault}
use Rattle.trees.specs.declared.fault.RuleFault.TheVariants.{Setting, Coefficient}
use Rattle.trees.specs.declared.settings.Coefficient.{Coefficient as Pair}
use Rattle.trees.specs.declared.settings.Scheme.{Scheme}
use Rattle.trees.specs.declared.settings.Scheme.TheVariants.{Thin, Fat, Trie}
use Rattle.trees.specs.Paths.{path_of}
use Rattle.trees.specs.Refusal.{rule_refusal, total_of}
use Rattle.trees.specs.Settings.{RuleSettings, asked_in_range, coefficient_fits, wanted, within}
use Rattle.listing.specs.declared.fault.Fault.{Fault}
use Rattle.listing.specs.declared.fault.Fault.TheVariants.{Line, Key, Rule, Memory}
use Rattle.listing.specs.declared.state.Reply.{Reply}
use Rattle.listing.specs.declared.state.Reply.TheVariants.{Nothing, Total, Path}
use Rattle.listing.specs.declared.state.State.{State}
use Rattle.listing.specs.declared.state.State.TheVariants.{Waiting, Collecting, Ready}
use Rattle.listing.specs.declared.wish.Kind.{Kind}
use Rattle.listing.specs.declared.wish.Kind.TheVariants.{Num, Code}
use Rattle.listing.specs.declared.wish.Wish.{Wish}
use Rattle.listing.specs.Drafts.{Drafted, blank, drafted, one_more}
use Rattle.listing.specs.Wishes.{set_line}

-- What is waited for: settings; the coefficients of the next level, behind those so far; keys.
pub data Phase : Type 0 where
  waiting : Phase
  collecting : Drafted → Phase
  ready : Kind → RuleSettings → Phase

-- What is answered: nothing is printed, the total, a key's path, or a refusal.
pub data Said : Type 0 where
  nothing : Said
  total_is : ℕ → Said
  path_is : List ℕ → Said
  refused : Fault → Said

abbrev pub Outcome : Type 0
Outcome = Said × Phase

-- A rule with all its coefficients stands, or is refused.
abbrev pub made_by : Option RuleFault → Kind → RuleSettings → Outcome
made_by None kind s = (total_is (total_of s), ready kind s)
made_by (Some f) kind s = (refused (Rule f), waiting)

abbrev pub made : Kind → RuleSettings → Outcome
made kind s = made_by (rule_refusal s) kind s

abbrev pub finished : Drafted → Outcome
finished d = made d.kind (wanted d.settings d.pairs)

-- A thin or fat tree wants coefficients first.
abbrev pub begun : Scheme → Drafted → Outcome
begun Thin d = (nothing, collecting d)
begun Fat d = (nothing, collecting d)
begun Trie d = finished d

abbrev pub set_out : Wish → Outcome
set_out w =
    cond (within 1 256 w.groups && asked_in_range w.settings)
    (begun w.settings.scheme (blank w.kind w.settings)) (refused (Rule Setting), waiting)

abbrev pub set_answer : Result Wish LineFault → Outcome
set_answer (Ok w) = set_out w
set_answer (Err f) = (refused (Line f), waiting)

-- The fields behind `coef`.
abbrev pub pair_field : Reading Pair
pair_field u = and_next number_field (λ a. and_next number_field (λ b. and_end (record { a = a; b = b }))) u

abbrev pub grown : Drafted → Outcome
grown d = cond (nat_lt (length d.pairs) d.settings.levels) (nothing, collecting d) (finished d)

-- The coefficients of one level more.
abbrev pub with_pair : Drafted → Pair → Outcome
with_pair d p = cond (coefficient_fits p) (grown (one_more d p)) (refused (Rule (Coefficient (length d.pairs))), waiting)

abbrev pub pair_answer : Drafted → Result Pair LineFault → Outcome
pair_answer d (Ok p) = with_pair d p
pair_answer d (Err f) = (refused (Line f), waiting)

-- A line that does not begin with `coef` leaves the coefficients so far.
abbrev pub coef_answer : Drafted → Result (Unit {0}) LineFault → Unread → Outcome
coef_answer d (Ok _) u = pair_answer d (pair_field u)
coef_answer d (Err f) u = (refused (Line f), collecting d)

-- The bytes of a key, or its refusal.
abbrev pub sheet_key : ℕ → Result (List ℕ) Fault
sheet_key n = cond (nat_le n largest_sheet) (Ok (sheet_bytes n)) (Err (Key Inadmissible))

abbrev pub code_key : List ℕ → Result (List ℕ) Fault
code_key text = cond (code_text text) (Ok (padded text)) (Err (Key Inadmissible))

-- The bytes of a key that there is.
abbrev pub spelled_by : {K : Type 0} → (K → List ℕ) → Result K KeyFault → Result (List ℕ) Fault
spelled_by spelling (Ok k) = Ok (spelling k)
spelled_by spelling (Err f) = Err (Key f)

abbrev pub in_line : {A : Type 0} → Result A LineFault → (A → Result (List ℕ) Fault) → Result (List ℕ) Fault
in_line (Ok x) f = f x
in_line (Err e) f = Err (Line e)

abbrev pub key_of : Kind → Unread → Result (List ℕ) Fault
key_of Num u = in_line (and_next number_field and_end u) sheet_key
key_of Code u = in_line (and_next text_field and_end u) (λ t. code_key t.1)

abbrev pub key_answer : Kind → RuleSettings → Result (List ℕ) Fault → Outcome
key_answer kind s (Ok key) = (path_is (path_of s key), ready kind s)
key_answer kind s (Err f) = (refused f, ready kind s)

-- What a line of at most 80 bytes comes to.
abbrev pub taken : Phase → List ℕ → Outcome
taken waiting line = set_answer (set_line line)
taken (collecting d) line = coef_answer d (word_field (codes "coef") (all_of line)) (onward (all_of line))
taken (ready kind s) line = key_answer kind s (key_of kind (all_of line))

-- What a line comes to; one that is too long leaves all as it was.
abbrev pub outcome : Phase → List ℕ → Outcome
outcome before line = cond (nat_le (length line) 80) (taken before line) (refused (Line (record { field = 0 })), before)

-- The state and the reply of the program, in these words.
abbrev pub phase : State → Phase
phase Waiting = waiting
phase (Collecting d) = collecting (drafted d)
phase (Ready kind rule) = ready kind (settings_of rule)

-- the phase of some state, so that settings by which keys are listed are those of a rule
abbrev pub OfState : Phase → Type 0
OfState p = (state : State) × (p ≡ phase state)

abbrev pub said : Reply → Said
said Nothing = nothing
said (Total total) = total_is total
said (Path cells) = path_is (vec_items cells)

abbrev pub answered : Result Reply Fault → Said
answered (Ok reply) = said reply
answered (Err f) = refused f

-- A refusal here goes back to waiting.
abbrev pub ended : Result (State × Reply) Fault → Outcome
ended (Ok p) = (said p.1, phase p.0)
ended (Err f) = (refused f, waiting)

-- What holds unless memory ran out, and what holds if it did.
abbrev pub Barring : {A : Type 0} → Result A Fault → Type 0 → Type 0
Barring (Ok x) P = P
Barring (Err (Line f)) P = P
Barring (Err (Key f)) P = P
Barring (Err (Rule f)) P = P
Barring (Err Memory) P = Unit {0}

abbrev pub Lacking : {A : Type 0} → Result A Fault → Type 0 → Type 0
Lacking (Ok x) P = Unit {0}
Lacking (Err (Line f)) P = Unit {0}
Lacking (Err (Key f)) P = Unit {0}
Lacking (Err (Rule f)) P = Unit {0}
Lacking (Err Memory) P = P

-- Where memory ran out, coefficients so far are lost, and nothing else.
abbrev pub after_shortage : Phase → Phase
after_shortage waiting = waiting
after_shortage (collecting d) = waiting
after_shortage (ready kind s) = ready kind s

-- Memory is asked for only to keep coefficients that fit, and to list the path of a key.
abbrev pub pair_kept : Result Pair LineFault → Bool
pair_kept (Ok p) = coefficient_fits p
pair_kept (Err f) = false

abbrev pub coef_kept : Result (Unit {0}) LineFault → Unread → Bool
coef_kept (Ok _) u = pair_kept (pair_field u)
coef_kept (Err f) u = false

abbrev pub wants_memory : Phase → List ℕ → Bool
wants_memory waiting line = false
wants_memory (collecting d) line = coef_kept (word_field (codes "coef") (all_of line)) (onward (all_of line))
wants_memory (ready kind s) line = is_ok (key_of kind (all_of line))

-- One line: the answer and what is waited for then are those of the rules. Memory may run out only where it is asked for.
pub record Steps (before : Phase) (line : List ℕ) (answer : Result Reply Fault) (after : Phase) : Type 0 where
  pub told : Barring answer (◌≡◌ {A = Outcome} (answered answer, after) (outcome before line))
  pub short : Lacking answer ((length line ≤ 80) × (wants_memory before line ≡ true) × (after ≡ after_shortage before))
