-- What a payload is that the builder makes, and the arrays of a widget.
use Rattle.std.specs.Prelude.{◌<◌, ◌^◌, List, []}
use Rattle.tplg_model.specs.declared.block.Body.{Body}
use Rattle.tplg_model.specs.Spelling.{AreRecords, block_type, count_of}
use Rattle.tplg_model.specs.Storable.{IsStorable}
use Rattle.tplg_model.specs.declared.array_type.TheConstants.{WORD}
use Rattle.tplg_model.specs.declared.tokens.NumberTuple.{NumberTuple}
use Rattle.tplg_model.specs.declared.tokens.TextTuple.{TextTuple}
use Rattle.tplg_model.specs.declared.tokens.TokenArray.{TokenArray}
use Rattle.tplg_model.specs.declared.tokens.TokenArray.TheVariants as array
use Rattle.tplg_model.specs.declared.pcm.StreamRecord.{StreamRecord}
use Rattle.tplg_build.specs.WidgetForm.{one_of_all}

-- records of the program, whose type, number and bytes fit the words of a header
pub record IsPayload (body : Body) : Type 0 where
  pub records : AreRecords body
  pub sound : IsStorable body
  pub kind : block_type body < 2 ^ 32
  pub count : count_of body < 2 ^ 32

-- an array is there where it is not empty
abbrev pub number_array : List NumberTuple → List TokenArray
number_array numbers = one_of_all (λ items. array.Number (record { kind = WORD; items = items })) numbers

abbrev pub text_array : List TextTuple → List TokenArray
text_array texts = one_of_all array.Text texts

-- an empty stream record
abbrev pub empty_stream : StreamRecord
empty_stream = record { name = []; format = 0; rate = 0; period_bytes = 0; buffer_bytes = 0; channels = 0 }
