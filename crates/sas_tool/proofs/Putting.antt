-- What was written to standard error, piece by piece.
use Rattle.std.proofs.Common.{◌≡◌, ◌∙◌, ◌++◌, ◌&&◌, ℕ, Bool, List, [], true, codes, Option, Some, None, append-nil, append_assoc, sym, ap}
use Rattle.std.specs.Io.KnownBytes.{Appends}
use Rattle.sas_lines.specs.Device.{Device}
use Rattle.sas_tool.specs.Endings.{Puts, error_text, is_about_input, line_of, name_text, text_of}
use Rattle.sas_tool.specs.declared.arguments.Source.{Source}
use Rattle.sas_tool.specs.declared.endings.Ended.{Ended}

nothing : (old : Option (List ℕ)) → Appends old old []
nothing None = tt
nothing (Some xs) = sym (append-nil xs)

both : (old mid new : Option (List ℕ)) (a b : List ℕ) → Appends old mid a → Appends mid new b → Appends old new (a ++ b)
both None mid new a b first second = tt
both (Some xs) None new a b first second = absurd first
both (Some xs) (Some ys) None a b first second = absurd second
both (Some xs) (Some ys) (Some zs) a b first second = second ∙ ap (λ l. l ++ b) first ∙ append_assoc xs a b

module _ {W : Type 0} (contents : W → Option (List ℕ)) where
  pub puts_nothing : (old : Device W) → Puts contents [] old old
  puts_nothing old e = (e, nothing (contents old.device))

  pub puts_both : (a b : List ℕ) (old mid new : Device W) → Puts contents a old mid → Puts contents b mid new → Puts contents (a ++ b) old new
  puts_both a b old mid new first second e =
      let later = second e in
      let earlier = first later.0 in
      (earlier.0, both (contents old.device) (contents mid.device) (contents new.device) a b earlier.1 later.1)

-- what stands on standard error where a line is about an input
pub error_is : (end : Ended) (why : Bool) (last : Option Source) (line : List ℕ) → line_of end ≡ Some line → why && is_about_input end ≡ true
    → error_text end why last ≡ (line ++ codes "\n") ++ name_text last
error_is end why last line said about = ap (λ o. text_of o (why && is_about_input end) last) said ∙ ap (λ b. text_of (Some line) b last) about
