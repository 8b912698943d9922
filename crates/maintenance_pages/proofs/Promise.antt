-- Settings and messages keep their promise. Assumes nothing.
use mathlib.Core.Path.{refl}
use Rattle.codec_pages.specs.Frames.{frame_of, body_of}
use Rattle.maintenance_pages.specs.Promise.{Promise}
use Rattle.maintenance_pages.proofs.Messages.{heard_means, right_means}
use Rattle.maintenance_pages.proofs.Told.{coded_code, says}
use Rattle.maintenance_pages.proofs.Past.{past_length}
use Rattle.maintenance_pages.proofs.Settings.{same_code, values, legal_means, accepted_means, equal_accepted, negative, speeds}
use Rattle.maintenance_pages.proofs.SerialWords.{serial_built, serial_words}

pub promise : Promise
promise =
    record {
      messages = says;
      heard = heard_means;
      right = right_means;
      past_length = past_length;
      coded = coded_code;
      codes = same_code;
      values = values;
      legal = legal_means;
      accepted = accepted_means;
      equal_identifiers = equal_accepted;
      negative = negative;
      sent = λ transmit bytes. (frame_of transmit (body_of bytes), record { sent = refl; extended = refl; identifier = refl; length = refl; bytes = refl });
      not_sent = refl;
      serial_built = serial_built;
      serial_words = serial_words;
      speeds = speeds;
    }
