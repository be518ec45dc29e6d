-- What the code's script is, as plain data.
use Rattle.amqp_endpoint_scripts.specs.declared.script.NumberedLine.{NumberedLine}
use Rattle.amqp_endpoint_scripts.specs.declared.script.Given.{Given as GivenSettings}
use Rattle.amqp_endpoint_scripts.specs.declared.script.OneScript.{OneScript as ScriptOfOne}
use Rattle.amqp_endpoint_scripts.specs.declared.script.TwoScript.{TwoScript as ScriptOfTwo}
use Rattle.amqp_endpoint_scripts.specs.declared.script.Parsed.{Parsed}
use Rattle.amqp_endpoint_scripts.specs.declared.script.Parsed.TheVariants.{Nothing, Unreadable, One, Two}
use Rattle.amqp_endpoint_scripts.specs.Script.{Line, Given, OneScript, TwoScript, Reading, nothing, unreadable, of_one}
use Rattle.amqp_endpoint_scripts.specs.Script.{of_two}

abbrev pub line_of : NumberedLine → Line
line_of l = record { number = l.number; text = l.text.now }

abbrev pub given_of : GivenSettings → Given
given_of g = record { line = g.line; settings = g.settings }

abbrev pub one_of : ScriptOfOne → OneScript
one_of s = record { given = given_of s.given; lines = s.lines.items; calls = s.calls.items }

abbrev pub two_of : ScriptOfTwo → TwoScript
two_of s =
    record {
      given_a = given_of s.given_a;
      given_b = given_of s.given_b;
      lines = s.lines.items;
      steps = s.steps.items;
    }

abbrev pub parsed : Parsed → Reading
parsed Nothing = nothing
parsed (Unreadable n) = unreadable n
parsed (One s) = of_one (one_of s)
parsed (Two s) = of_two (two_of s)
