mod Certificates
