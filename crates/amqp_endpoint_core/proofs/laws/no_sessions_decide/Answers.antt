use Rattle.std.proofs.Common.{sym, ◌∙◌}
use Rattle.amqp_endpoint_core.proofs.NoSessionLaws.{never_both, some_is}
use Rattle.amqp_endpoint_core.proofs.laws.no_sessions_decide.Goals as goal

pub returns : goal.returns
returns c =
    record {
      taken = λ old new other limit channel body frames more events told t u. absurd t;
      refused = λ old new other limit channel body e why r s n m. (r.0 ∙ sym s.0, r.1 ∙ sym s.1);
      apart = λ old new other limit channel body frames events e t r n. absurd t;
      called = λ old new other limit call a b frames more t u. (
        some_is _ _ (sym t.0 ∙ u.0),
        t.1 ∙ sym u.1,
        t.2 ∙ sym u.2,
      );
      barred = λ old limit call e why r s n m. some_is _ _ (sym r ∙ s);
      uncalled = λ old new limit call a frames e t r n. never_both call a e t.0 r;
      closed = λ old new other a b. a ∙ sym b;
      finished = λ old new other a b. a ∙ sym b;
    }
