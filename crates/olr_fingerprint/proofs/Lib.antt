mod DigestRows
mod DigestBytes
