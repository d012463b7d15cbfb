-- What a speaker has said.
use Rattle.std.specs.Prelude.{ℕ, List, Option, Bool}
use Rattle.speaking.specs.declared.edits.FocusedText.{FocusedText}
use Rattle.speaking.specs.declared.news.News.{News}
use Rattle.speaking.specs.declared.speaker.Speaker.{Speaker}

-- what it has said and was not written yet
abbrev pub said_by : Speaker → List ℕ
said_by s = s.voice.said

-- what the events of a step have said, to be said at its end
abbrev pub waiting_in : Speaker → List ℕ
waiting_in s = s.voice.waiting

-- the focused text as it was last said
abbrev pub text_held_by : Speaker → Option FocusedText
text_held_by s = s.text

-- what is new in live regions, and wasn't said yet
abbrev pub news_of : Speaker → News
news_of s = s.news

abbrev pub fell_silent : Speaker → Bool
fell_silent s = s.is_silent
