use Rattle.std.proofs.Common.{◌∷◌, ◌++◌, ◌∙◌, [], List, ℕ, ap, take}
use Rattle.sof_script.proofs.LineTokenLaws.{kept_one}
use Rattle.sof_script.proofs.line_tokens.Tokens.keep.Goals as goal

pub returns-then-self-lt11 : goal.returns-then-self-lt11
returns-then-self-lt11 c =
    kept_one c.self.inside.found c.self.inside.count c.args.token c.if-self-lt11.true c.self.told
    ∙ ap (λ (k : List (List ℕ)). take 11 (k ++ c.args.token.now ∷ [])) c.self.view_is
