-- A property of each line: at one of them, and after each beginning.
use Rattle.std.proofs.Common.{◌≡◌, List, [], ◌∷◌, ◌++◌, ◌∙◌, ap, subst, append_assoc}
use Rattle.std.specs.Prelude.{reverse}
use Rattle.std.proofs.lemmas.List.{reverse-append}
use Rattle.lawful_history.specs.declared.line.Line.{Line}
use Rattle.history_laws.specs.Rows.{EachLine}

pub older_lines : (P : List Line → Line → Type 0) (new old : List Line) → EachLine P (new ++ old) → EachLine P old
older_lines P [] old all = all
older_lines P (line ∷ new) old all = older_lines P new old all.1

pub at_beginning : (P : List Line → Line → Type 0) (before after : List Line) → EachLine P (reverse (before ++ after)) → EachLine P (reverse before)
at_beginning P before after all = older_lines P (reverse after) (reverse before) (subst (λ (past : List Line). EachLine P past) (reverse-append before after) all)

pub middle : (before after : List Line) (line : Line) → reverse (before ++ line ∷ after) ≡ reverse after ++ (line ∷ reverse before)
middle before after line = reverse-append before (line ∷ after) ∙ ap (λ r. r ++ reverse before) (reverse-append (line ∷ []) after) ∙ append_assoc (reverse after) (line ∷ []) (reverse before)

pub at_line : (P : List Line → Line → Type 0) (before after : List Line) (line : Line) → EachLine P (reverse (before ++ line ∷ after)) → P (reverse before) line
at_line P before after line all = (older_lines P (reverse after) (line ∷ reverse before) (subst (λ (past : List Line). EachLine P past) (middle before after line) all)).0
